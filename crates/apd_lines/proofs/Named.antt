-- The names of what was read of a line.
use Rattle.std.proofs.Common.{◌≤◌, ℕ, arith}
use Rattle.apd_base.specs.declared.limits.TheConstants.{MAX_LINE}
use Rattle.apd_lines.specs.Lines.{LineIsNamed, LineIsReadOf}
use Rattle.apd_lines.specs.declared.lines.LineRead.{LineRead}
use Rattle.apd_lines.specs.declared.lines.LineRead.TheVariants as lines

-- a text that is no longer than a line
pub named_line : (n bytes : ℕ) (line : LineRead) → bytes ≤ MAX_LINE → LineIsReadOf n bytes line → LineIsNamed n line
named_line n bytes lines.Empty short h = tt
named_line n bytes lines.TooLong short h = tt
named_line n bytes (lines.Bad cause) short h = h
named_line n bytes (lines.Clause r) short h = record { standard = h.standard; named = h.named; short = let s = h.short in omega (arith, s, short) }
