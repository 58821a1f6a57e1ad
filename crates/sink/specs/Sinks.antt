-- What a walk over a formula does with the instructions that it makes, besides executing them. A sink takes them in: one that runs is left alone, one that lists
-- writes their lines, one that surveys a body gathers the ids that the body uses and that stand before its own: what a WithCtrl takes in must be written
-- before its body's lines. So a form is walked in one way, whatever is wanted of it.
use Rattle.std.specs.Prelude.{ℕ, suc, ◌+◌, ◌^◌, true, false, List, [], ◌∷◌, ltb, leb, length}
use Rattle.std.proofs.lemmas.List.Edits.{sets}
use Rattle.snesl.specs.declared.code.Instruction.{Instruction}
use Rattle.snesl.specs.declared.code.Instruction.TheVariants.{Define, WithCtrl, Close}
use Rattle.snesl.specs.declared.code.Transducer.{Transducer}
use Rattle.snesl.specs.Transducers.{operands}
use Rattle.snesl.specs.Programs.{Program, done, define, with_ctrl, count, insert}
use Rattle.snesl.specs.Listing.{define_line, with_ctrl_line, close_line}
use Rattle.sink.specs.declared.state.Mode.{Mode}
use Rattle.sink.specs.declared.state.Mode.TheVariants.{Running, Listing, Surveying}

pub record Sink : Type 0 where
  pub mode : Mode
  -- the slice lent for the listing, and the position in it that comes next
  pub text : List ℕ
  pub at : ℕ
  -- the first id of the body that is surveyed; the ids before it that were used, ascending; how many of them can be kept
  pub own : ℕ
  pub taken : List ℕ
  pub most : ℕ

-- No line is written past this position: so no walk has to know how long its listing is. A listing that is shorter is whole (proofs/Feeding.antt, `feed-listing`).
abbrev pub far : ℕ
far = 2 ^ 30

-- a line at the position that comes next
abbrev pub put : List ℕ → Sink → Sink
put w k =
    elim (leb k.at far) [
      | true ↦ record { mode = k.mode; text = sets k.text k.at w; at = k.at + length w; own = k.own; taken = k.taken; most = k.most }
      | false ↦ k
    ]

-- an id that is used, where it stands before the body's own and can be kept
abbrev pub mark : (own most : ℕ) → ℕ → List ℕ → List ℕ
mark own most u us =
    elim (ltb u own) [ true ↦ elim (ltb (length us) most) [ true ↦ insert u us | false ↦ us ] | false ↦ us ]

unfoldable pub mark_all : (own most : ℕ) → List ℕ → List ℕ → List ℕ
mark_all own most [] us = us
mark_all own most (v ∷ vs) us = mark_all own most vs (mark own most v us)

abbrev pub take_in : List ℕ → Sink → Sink
take_in vs k =
    record { mode = k.mode; text = k.text; at = k.at; own = k.own; taken = mark_all k.own k.most vs k.taken; most = k.most }

-- the definition of stream s; the opening and the closing of a WithCtrl
abbrev pub defined : ℕ → Transducer → Sink → Sink
defined s t k = elim k.mode [ Running ↦ k | Listing ↦ put (define_line s t) k | Surveying ↦ take_in (operands t) k ]

abbrev pub opened : (outs : List ℕ) (control : ℕ) (ins : List ℕ) → Sink → Sink
opened outs c ins k = elim k.mode [ Running ↦ k | Listing ↦ put (with_ctrl_line outs c ins) k | Surveying ↦ k ]

abbrev pub closed : Sink → Sink
closed k = elim k.mode [ Running ↦ k | Listing ↦ put close_line k | Surveying ↦ k ]

-- a program whose first id is s, instruction by instruction
unfoldable pub feed : ℕ → Program → Sink → Sink
feed s done k = k
feed s (define t p) k = feed (suc s) p (defined s t k)
feed s (with_ctrl outs c ins b p) k = feed (s + count b) p (closed (feed s b (opened outs c ins k)))

-- an instruction by itself: what a WithCtrl puts out and takes in stands beside it, so that its opening is told by itself
abbrev pub told : Instruction → Sink → Sink
told (Define s t) k = defined s.0 t k
told (WithCtrl c) k = k
told Close k = closed k

-- Before a WithCtrl's line is written its body is surveyed, from its first id s on; then the listing goes on where it stood.
abbrev pub surveyed : ℕ → Sink → Sink
surveyed s k = record { mode = Surveying; text = k.text; at = k.at; own = s; taken = []; most = k.most }

abbrev pub resumed : Sink → Sink
resumed k = record { mode = Listing; text = k.text; at = k.at; own = 0; taken = []; most = k.most }
