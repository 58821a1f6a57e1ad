-- The text of an instruction by itself.
use Rattle.std.specs.Prelude.{ℕ, List}
use Rattle.snesl.specs.declared.code.Instruction.{Instruction}
use Rattle.snesl.specs.declared.code.Instruction.TheVariants.{Define, WithCtrl, Close}
use Rattle.snesl.specs.Listing.{define_line, close_line}
use Rattle.lines.specs.Pieces.{control_text}

abbrev pub instruction_text : Instruction → List ℕ
instruction_text (Define s t) = define_line s.0 t
instruction_text (WithCtrl c) = control_text c.0
instruction_text Close = close_line
