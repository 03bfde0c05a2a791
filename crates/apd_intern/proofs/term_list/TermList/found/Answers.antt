use Rattle.std.proofs.Common.{◌≡◌, Some, ap, sym, subst, ◌∙◌, take, drop}
use Rattle.std.specs.Prelude.{slice_get}
use Rattle.apd_term.specs.Term.{spell}
use Rattle.apd_intern.specs.declared.term_list.TermSpot.TheVariants.{Written}
use Rattle.apd_intern.proofs.Listed.{written_at}
use Rattle.apd_intern.proofs.term_list.TermList.found.Goals as goal

pub returns-then-are_same : goal.returns-then-are_same
returns-then-are_same c =
    let same : c.piece.result.now ≡ c.symbols.result.now = c.are_same.ensures.0 c.if-are_same.true in
    let piece : take c.in-Written.size (drop c.in-Written.from c.self.inside.symbols.items) ≡ spell c.args.t.now =
    ap (λ cs. take c.in-Written.size (drop c.in-Written.from cs)) (sym c.deref-2.ensures.value) ∙ sym c.piece.ensures ∙ same ∙ c.symbols.ensures in
    let there : slice_get c.self.inside.spots.items c.in_ok-place.place ≡ Some (Written c.in-Written.from c.in-Written.size) =
    subst (λ xs. slice_get xs c.in_ok-place.place ≡ Some (Written c.in-Written.from c.in-Written.size)) c.deref.ensures.value
    (c.in_ok-from.ensures ∙ ap Some c.in-Written.is) in
    subst (λ ts. slice_get ts c.in_ok-place.place ≡ Some c.args.t.now) c.self.view_is
    (written_at c.self.inside.symbols.items c.self.inside.shared c.self.inside.spots.items c.in_ok-place.place c.in-Written.from c.in-Written.size c.args.t.now there piece)
