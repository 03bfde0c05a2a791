use Rattle.std.proofs.Common.{◌++◌, IsSome, refl, sym, ◌∙◌, ap, ◌≡◌, Some, [], ◌∷◌, unwrap_or, subst}
use Rattle.std.specs.Prelude.{if◌then◌else◌}
use Rattle.indexmap.specs.IndexMap.{get}
use Rattle.std.specs.Prelude.{nat_eq}
use Rattle.apd_clauses.specs.Marks.{Marked}
use Rattle.apd_clauses.proofs.Indexing.{on_err}
use Rattle.apd_clauses.proofs.Marking.{noted, unnoted}
use Rattle.apd_clauses.proofs.marks.note.Goals as goal

pub returns-in-Some-clause-err : goal.returns-in-Some-clause-err
returns-in-Some-clause-err c =
    on_err c.push.result _ _ c.push.ensures.err
    (λ same q. unnoted c.args.marked.now (c.get_mut.follows.lender c.push.new.self) c.args.mark q c.in-Some.numbers.now (sym c.in-Some.ensures.value)
    (let there : IsSome (get nat_eq c.args.marked.now c.args.mark) = subst (λ o. IsSome o) c.in-Some.ensures.value refl in
    let e : get nat_eq (c.get_mut.follows.lender c.push.new.self) q ≡ (if nat_eq c.args.mark q then Some c.push.new.self else get nat_eq c.args.marked.now q) = ((c.get_mut.follows.holds c.push.new.self).3 there).0 q in
    subst (λ xs. get nat_eq (c.get_mut.follows.lender c.push.new.self) q ≡ (if nat_eq c.args.mark q then Some xs else get nat_eq c.args.marked.now q)) same e))

pub returns-clause-ok : goal.returns-clause-ok
returns-clause-ok c = λ q.
    let h : get nat_eq c.insert.new.self q ≡ (if nat_eq c.args.mark q then Some c.push-2.new.self else get nat_eq c.get_mut.follows.lender-at-none q) = c.in_ok-insert.ensures.updates.0 q in
    let made : c.push-2.new.self ≡ c.args.number ∷ [] = c.in_ok-push.ensures.ok ∙ ap (λ xs. xs ++ c.args.number ∷ []) c.new-numbers.ensures in
    let e : get nat_eq c.insert.new.self q ≡ (if nat_eq c.args.mark q then Some (c.args.number ∷ []) else get nat_eq c.args.marked.now q) =
    subst (λ (m : Marked). get nat_eq c.insert.new.self q ≡ (if nat_eq c.args.mark q then Some (c.args.number ∷ []) else get nat_eq m q)) c.get_mut.follows.holds-at-none
    (subst (λ xs. get nat_eq c.insert.new.self q ≡ (if nat_eq c.args.mark q then Some xs else get nat_eq c.get_mut.follows.lender-at-none q)) made h) in
    noted c.args.marked.now c.insert.new.self c.args.mark q [] (ap (λ o. unwrap_or o []) (sym c.in_default.ensures.value)) c.args.number e
