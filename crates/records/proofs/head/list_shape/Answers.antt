-- The tests stand in the definition's order, so each way out computes; the listed variables stand within the record.
use Rattle.std.proofs.Common.{◌+◌, ◌∙◌, sym}
use Rattle.records.proofs.Heads.{list-within, list-many, list-names, list-fits}
use Rattle.records.proofs.Variables.{row-part}
use Rattle.records.proofs.head.list_shape.Goals as goal
use Rattle.records.proofs.head.list_shape.Goals.{then-listed-gt-LISTED-via-then-listed-gt-LISTED, then-listed-gt-LISTED-via-else-listed-gt-LISTED+then-not-variables_ok}

pub returns-then-listed-gt-LISTED : goal.returns-then-listed-gt-LISTED
returns-then-listed-gt-LISTED c = let t = c.args.bytes.now in
    let k = c.args.k in
    let count = c.args.count in
    let j = c.from-listed.result in
    let q = c.from-listed.ensures in
    let h = sym c.has_bytes.ensures ∙ c.if-not-has_bytes.false in
    let s = sym c.sized.ensures ∙ c.in_ok-sized.was in
    let row = row-part t (k + (3 + count)) j (list-within t k count j q h s) in
    elim c.then-listed-gt-LISTED.branch [
      | then-listed-gt-LISTED-via-then-listed-gt-LISTED w ↦ list-many t k count j q h s w.if-listed-gt-LISTED.true
      | then-listed-gt-LISTED-via-else-listed-gt-LISTED+then-not-variables_ok w ↦
          list-names t k count j q h s w.if-listed-gt-LISTED.false (sym row ∙ (sym w.variables_ok.ensures ∙ w.if-not-variables_ok.true))
    ]

pub returns : goal.returns
returns c = let t = c.args.bytes.now in
    let k = c.args.k in
    let count = c.args.count in
    let j = c.from-listed.result in
    let q = c.from-listed.ensures in
    let h = sym c.has_bytes.ensures ∙ c.if-not-has_bytes.false in
    let s = sym c.sized.ensures ∙ c.in_ok-sized.was in
    let row = row-part t (k + (3 + count)) j (list-within t k count j q h s) in
    list-fits t k count j q h s c.if-listed-gt-LISTED.false (sym row ∙ (sym c.variables_ok.ensures ∙ c.if-not-variables_ok.false))
