use Rattle.std.proofs.Common.{◌∷◌, [], inl, inr, refl, ℕ, List, subst, sym}
use Rattle.std.specs.Prelude.{IfOk, IsTrue}
use Rattle.apd_term.specs.Term.{IsAmong}
use Rattle.apd_term.proofs.Among.{IsAmong-left, IsAmong-right}
use Rattle.apd_index.specs.Columns.{AddsOf}
use Rattle.apd_index.proofs.large.note_any.Goals as goal

pub returns-in-Some-clause-adds : goal.returns-in-Some-clause-adds
returns-in-Some-clause-adds c =
    subst (λ (k : ℕ). IfOk c.note_atom.result (λ b. IsTrue b → AddsOf c.note_atom.new.table.nodes c.args.table.now.columns c.args.atom.now k c.note_atom.new.table.columns)) c.in-Some.ensures c.note_atom.ensures.adds

pub returns-in_ok-push-in-None-clause-grows : goal.returns-in_ok-push-in-None-clause-grows
returns-in_ok-push-in-None-clause-grows c = record {
  sound = c.requires.sound;
  kept = λ m k a. a;
  founders = record { still = λ m k f. f };
  large = λ k a. subst (λ (ks : List ℕ). IsAmong ks k) (sym c.in_ok-push-in-None.ensures.items) (IsAmong-left c.args.table.now.large.items (c.args.place ∷ []) k a);
  numbers = λ p n is. is;
  entries = λ n e i. i;
}

pub returns-in_ok-push-in-None-clause-noted : goal.returns-in_ok-push-in-None-clause-noted
returns-in_ok-push-in-None-clause-noted c = inr (subst (λ (ks : List ℕ). IsAmong ks c.args.place) (sym c.in_ok-push-in-None.ensures.items) (IsAmong-right c.args.table.now.large.items (c.args.place ∷ []) c.args.place (inl refl)))
