-- `mmu_stream::LineDisplay::fmt` meets its contract: a line is ASCII, and so text.
use Rattle.std.proofs.Common.{rules}
use Rattle.std.proofs.lemmas.Str.{IsUtf8-from_ascii}
use Rattle.mmu_stream.proofs.LineDisplay.fmt.Goals as goal

pub unwrap-requires : goal.unwrap-requires
unwrap-requires g c = let text = IsUtf8-from_ascii _ c.line_of-line.ensures.ascii in search rules
