-- Parts of a log whose entries are right.
use Rattle.std.proofs.Common.{List, [], ◌∷◌, ◌++◌}
use Rattle.apd_clauses.specs.declared.clause.Clause.{Clause}
use Rattle.apd_answers.specs.Interpretation.{Interpretation}
use Rattle.apd_divide.specs.declared.node.Strategy.{Strategy}
use Rattle.apd_text.specs.declared.entry.Entry.{Entry}
use Rattle.apd_account.specs.Account.{Account, after_entry, after_entries}
use Rattle.apd_account.specs.Right.{IsRight, AreRight}

module _ (m : Interpretation) (program : List Clause) (strategy : Strategy) where
  -- entries behind others
  pub right-append : (a : Account) (xs ys : List Entry) → AreRight m program strategy a xs → AreRight m program strategy (after_entries program strategy a xs) ys → AreRight m program strategy a (xs ++ ys)
  right-append a [] ys r q = q
  right-append a (e ∷ es) ys r q = (r.0, right-append (after_entry program strategy a e) es ys r.1 q)

  pub right-front : (a : Account) (xs ys : List Entry) → AreRight m program strategy a (xs ++ ys) → AreRight m program strategy a xs
  right-front a [] ys r = tt
  right-front a (e ∷ es) ys r = (r.0, right-front (after_entry program strategy a e) es ys r.1)

  -- the last one in another form
  pub right-last : (change : Entry → Entry) → ((a : Account) (e : Entry) → IsRight m program strategy a e → IsRight m program strategy a (change e))
      → (a : Account) (xs : List Entry) (e : Entry) → AreRight m program strategy a (xs ++ e ∷ []) → AreRight m program strategy a (xs ++ change e ∷ [])
  right-last change h a [] e r = (h a e r.0, tt)
  right-last change h a (x ∷ xs) e r = (r.0, right-last change h (after_entry program strategy a x) xs e r.1)
