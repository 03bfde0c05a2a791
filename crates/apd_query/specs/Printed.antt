-- What a printer prints of a whole run.
use Rattle.std.specs.Prelude.{ℕ, List}
use Rattle.apd_trace.specs.Run.{Run, shown_of}
use Rattle.apd_query.specs.Runs.{shown_text}
use Rattle.apd_query.specs.declared.printer.Printer.{Printer}

-- the ports that it admits, and the answers, numbered from 1
abbrev pub lines_by : {K : Type 0} → Printer K → Run → List ℕ
lines_by p run = shown_text p.voice.now.log.ops p.voice.now.log.names p.vars.now p.admit.now 1 (shown_of run.passed)
