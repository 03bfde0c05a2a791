use Rattle.std.proofs.Common.{◌≤◌, ◌-◌, length}
use Rattle.std.specs.Io.KnownBytes.{Consumes}
use Rattle.apd_io.proofs.disk_files.read_all.Given as goal

pub record IsRead (consumed : Type 0) (few : Type 0) : Type 0 where
  pub so_far : consumed
  pub bound : few

abbrev pub invariant-chunks : goal.invariant-chunks
invariant-chunks g l = IsRead (Consumes (g.F.Read.remaining l.fn.file) (g.F.Read.remaining l.file) l.text) (length l.text ≤ 1048577)

abbrev pub decreases-chunks : goal.decreases-chunks
decreases-chunks g l = 1048577 - length l.text
