-- What the linked library answers: a number, 0 or the refusal's (01, "Refusal numbers"), and figures.
use Rattle.std.specs.Prelude.{ℕ, List, [], ◌∷◌, ◌++◌, ℤ, length, take, drop, replicate, Option, Some, None, Result, Ok, Err}
use Rattle.snesl.specs.declared.code.Base.{Base}
use Rattle.snesl.specs.declared.refusal.Refusal.{Refusal}
use Rattle.snesl.specs.declared.refusal.Refusal.TheVariants.{OverLimit}
use Rattle.snesl.specs.Refusals as refusals
use Rattle.snesl.specs.Records.{read_formula}
use Rattle.snesl.specs.Listing as listing
use Rattle.checking.specs.Checks.{check_front}
use Rattle.scopes.specs.declared.types.ValueType.{ValueType}
use Rattle.finder.specs.Parts.{located}
use Rattle.valuetext.specs.Storing as storing
use Rattle.valuetext.specs.Storing.{Conversion, to_streams}
use Rattle.rendering.specs.Rendering.{Rendering, refused_as, to_text}
use Rattle.hailspindle.specs.Bases.{byte_of}

pub record Reply : Type 0 where
  pub number : ℕ
  pub figures : List ℕ

-- the figures from the start of a slice on, as far as it goes; what lies behind them keeps its content
unfoldable pub noted : List ℕ → (old : List ℕ) → List ℕ
noted figures old = take (length old) figures ++ drop (length figures) old

abbrev pub accepts : List ℕ → Reply
accepts figures = record { number = 0; figures = figures }

-- the place first, and 0 for each other figure that the call has
abbrev pub refuses : (others : ℕ) → Refusal → Reply
refuses others r = record { number = refusals.number r; figures = refusals.place r ∷ replicate others 0 }

-- a count, or a refusal of a call that has no other figure
abbrev pub counted_reply : Result ℕ Refusal → Reply
counted_reply (Ok count) = accepts (count ∷ [])
counted_reply (Err r) = refuses 0 r

-- ---- each call

abbrev pub checked_reply : Result ValueType Refusal → Reply
checked_reply (Ok t) = accepts (t.depth ∷ byte_of t.base ∷ [])
checked_reply (Err r) = refuses 1 r

abbrev pub check_reply : List ℕ → Reply
check_reply formula = checked_reply (check_front (read_formula formula))

abbrev pub list_reply : listing.Listed → Reply
list_reply (listing.listed text) = accepts (length text ∷ [])
list_reply (listing.unlisted r) = refuses 0 r

-- where the finder's part stands (finder's `find-located`)
abbrev pub find_reply : ℕ → List ℕ → Reply
find_reply input job = accepts ((located input job).start ∷ (located input job).bytes ∷ [])

-- a conversion, of a base that may be none
abbrev pub to_streams_by : Option Base → List ℕ → (d : ℕ) → List ℤ → List ℕ → Conversion
to_streams_by None t d es ls = storing.refused (OverLimit 0) es ls
to_streams_by (Some b) t d es ls = to_streams t b d es ls

abbrev pub to_text_by : Option Base → List ℤ → List ℕ → (d : ℕ) → List ℕ → Rendering
to_text_by None zs ls d old = refused_as (OverLimit 0) old
to_text_by (Some b) zs ls d old = to_text zs ls b d old
