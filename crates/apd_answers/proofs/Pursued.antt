-- How a diagnosis goes on without a question, where its bound falls in what is known.
use Rattle.std.proofs.Common.{◌≡◌, ℕ, zero, suc, ◌<◌, ◌≤◌, Option, Some, None, refl, sym, ◌∙◌, ap, arith}
use Rattle.apd_answers.specs.declared.question.Reply.{Reply}
use Rattle.apd_answers.specs.declared.question.Asked.{Asked}
use Rattle.apd_answers.specs.Store.{Store, decided}
use Rattle.apd_answers.specs.Dialogue.{Turn, asks, goes, ends, Diagnosis, unless_decided, settled, pursued, next_turn}
use Rattle.apd_answers.specs.Falling.{FallsWhere}

-- two ways to go on that agree wherever the turn leads
settled-agree : {S E : Type 0} (store : Store) (f g : S → Turn S E) (turn : Turn S E)
    → ((asked : Asked) (next : Reply → S) (r : Reply) → turn ≡ asks asked next → decided store asked.question ≡ Some r → f (next r) ≡ g (next r))
    → ((t : S) → turn ≡ goes t → f t ≡ g t) → settled store f turn ≡ settled store g turn
settled-agree {S} {E} store f g (asks asked next) h k = by (decided store asked.question) refl
  where
    by : (o : Option Reply) → decided store asked.question ≡ o → unless_decided f asked next o ≡ unless_decided g asked next o
    by None e = refl
    by (Some r) e = h asked next r refl e
settled-agree store f g (goes t) h k = k t refl
settled-agree store f g (ends e) h k = refl

-- a turn that leads nowhere
settled-still : {S E : Type 0} (store : Store) (f : S → Turn S E) (turn : Turn S E)
    → ((asked : Asked) (next : Reply → S) (r : Reply) → turn ≡ asks asked next → decided store asked.question ≡ Some r → ⊥)
    → ((t : S) → turn ≡ goes t → ⊥) → turn ≡ settled store f turn
settled-still {S} {E} store f (asks asked next) h k = by (decided store asked.question) refl
  where
    by : (o : Option Reply) → decided store asked.question ≡ o → asks asked next ≡ unless_decided f asked next o
    by None e = refl
    by (Some r) e = absurd (h asked next r refl e)
settled-still store f (goes t) h k = absurd (k t refl)
settled-still store f (ends e) h k = refl

below_none : (m n : ℕ) → m < n → n ≤ 0 → ⊥
below_none m n l h = omega (arith, l, h)

-- any number of turns will do that is no less than the bound
pursued-enough : {S E : Type 0} (d : Diagnosis S E) (Known : Store → S → Type 0) → FallsWhere d Known → (store : Store) (k j : ℕ) (s : S) → Known store s
    → d.bound store s ≤ k → d.bound store s ≤ j → pursued d store k s ≡ pursued d store j s
pursued-enough d Known f store zero zero s known a b = refl
pursued-enough d Known f store zero (suc j) s known a b =
    settled-still store (pursued d store j) (d.turn store s)
    (λ asked next r e o. below_none (d.bound store (next r)) (d.bound store s) (f.by_reply store s asked next r known e o).1 a)
    (λ t e. below_none (d.bound store t) (d.bound store s) (f.by_going store s t known e).1 a)
pursued-enough d Known f store (suc k) zero s known a b =
    sym (settled-still store (pursued d store k) (d.turn store s)
    (λ asked next r e o. below_none (d.bound store (next r)) (d.bound store s) (f.by_reply store s asked next r known e o).1 b)
    (λ t e. below_none (d.bound store t) (d.bound store s) (f.by_going store s t known e).1 b))
pursued-enough d Known f store (suc k) (suc j) s known a b =
    settled-agree store (pursued d store k) (pursued d store j) (d.turn store s)
    (λ asked next r e o. let h = f.by_reply store s asked next r known e o in let l = h.1 in pursued-enough d Known f store k j (next r) h.0 (omega (arith, l, a)) (omega (arith, l, b)))
    (λ t e. let h = f.by_going store s t known e in let l = h.1 in pursued-enough d Known f store k j t h.0 (omega (arith, l, a)) (omega (arith, l, b)))

-- the next turn is this one, or that to which it leads
pub known-is : {S E : Type 0} (d : Diagnosis S E) (Known : Store → S → Type 0) → FallsWhere d Known → (store : Store) (s : S) → Known store s
    → next_turn d store s ≡ settled store (next_turn d store) (d.turn store s)
known-is d Known f store s known =
    pursued-enough d Known f store (d.bound store s) (suc (d.bound store s)) s known (omega arith) (omega arith)
    ∙ settled-agree store (pursued d store (d.bound store s)) (next_turn d store) (d.turn store s)
    (λ asked next r e o. let h = f.by_reply store s asked next r known e o in let l = h.1 in pursued-enough d Known f store (d.bound store s) (d.bound store (next r)) (next r) h.0 (omega (arith, l)) (omega arith))
    (λ t e. let h = f.by_going store s t known e in let l = h.1 in pursued-enough d Known f store (d.bound store s) (d.bound store t) t h.0 (omega (arith, l)) (omega arith))

-- a question that the store decides
pub known-decided : {S E : Type 0} (d : Diagnosis S E) (Known : Store → S → Type 0) → FallsWhere d Known → (store : Store) (s : S) (asked : Asked) (next : Reply → S) (r : Reply) → Known store s
    → d.turn store s ≡ asks asked next → decided store asked.question ≡ Some r → next_turn d store s ≡ next_turn d store (next r)
known-decided d Known f store s asked next r known e o =
    known-is d Known f store s known ∙ ap (settled store (next_turn d store)) e ∙ ap (unless_decided (next_turn d store) asked next) o

-- a question that it doesn't decide
pub known-asks : {S E : Type 0} (d : Diagnosis S E) (Known : Store → S → Type 0) → FallsWhere d Known → (store : Store) (s : S) (asked : Asked) (next : Reply → S) → Known store s
    → d.turn store s ≡ asks asked next → decided store asked.question ≡ None → next_turn d store s ≡ asks asked next
known-asks d Known f store s asked next known e o =
    known-is d Known f store s known ∙ ap (settled store (next_turn d store)) e ∙ ap (unless_decided (next_turn d store) asked next) o

-- a turn without one
pub known-goes : {S E : Type 0} (d : Diagnosis S E) (Known : Store → S → Type 0) → FallsWhere d Known → (store : Store) (s t : S) → Known store s
    → d.turn store s ≡ goes t → next_turn d store s ≡ next_turn d store t
known-goes d Known f store s t known e = known-is d Known f store s known ∙ ap (settled store (next_turn d store)) e

pub known-ends : {S E : Type 0} (d : Diagnosis S E) (Known : Store → S → Type 0) → FallsWhere d Known → (store : Store) (s : S) (end : E) → Known store s
    → d.turn store s ≡ ends end → next_turn d store s ≡ ends end
known-ends d Known f store s end known e = known-is d Known f store s known ∙ ap (settled store (next_turn d store)) e
