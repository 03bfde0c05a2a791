use Rattle.std.proofs.Common.{Some, sym, ap, ◌∙◌, length}
use borrow.Author.Tests.{true-ltb}
use Rattle.std.proofs.lemmas.Option.{slice_get-get_or}
use Rattle.apd_read.specs.declared.lexeme.Lexeme.{Lexeme}
use Rattle.apd_read.proofs.Tables.{begins_some}
use Rattle.apd_read.proofs.places.begins.Goals as goal

pub returns-in_ok-begin-in-Some : goal.returns-in_ok-begin-in-Some
returns-in_ok-begin-in-Some c =
    let ls = c.args.lexemes.now in
    let l = c.in-Some.l.now in
    let lt = true-ltb c.args.at (length ls) c.in-Some.ensures.lookup.0 in
    begins_some c.args.ops.now ls c.args.at l c.in_ok-begin-in-Some.begin
    (slice_get-get_or ls c.args.at l lt ∙ ap (λ (w : Lexeme). Some w) (sym c.in-Some.ensures.lookup.1)) c.in_ok-begin-in-Some.ensures
