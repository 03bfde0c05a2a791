-- The next turn of a diagnosis is that of a state that is known.
use Rattle.std.proofs.Common.{◌≡◌, ℕ, zero, suc, Option, Some, None, refl, ◌∙◌}
use Rattle.apd_answers.specs.declared.question.Asked.{Asked}
use Rattle.apd_answers.specs.declared.question.Reply.{Reply}
use Rattle.apd_answers.specs.Store.{Store, decided, with_pair}
use Rattle.apd_answers.specs.Dialogue.{Diagnosis, Turn, asks, goes, ends, unless_decided, settled, pursued, next_turn}
use Rattle.apd_answers.specs.Questions.{FitsAsked}
use Rattle.apd_known.specs.Pairs.{MayAsk}
use Rattle.apd_text.specs.declared.entry.Entry.{Entry}
use Rattle.apd_text.specs.Named.{EntryIsNamed, QuestionIsNamed, ReplyIsNamed}
use Rattle.apd_debug.specs.Known.{KeepsNamed}

module _ {D E : Type 0} (d : Diagnosis D E) (found : E → Entry) (IsKnown : ℕ → Store → D → Type 0) (keeps : KeepsNamed d found IsKnown) where
  -- a turn of a known state
  abbrev pub IsKnownTurn : ℕ → Store → Turn D E → Type 0
  IsKnownTurn n store turn = (s : D) × (d.turn store s ≡ turn) × IsKnown n store s

  pursued-known : (n : ℕ) (store : Store) (k : ℕ) (s : D) → IsKnown n store s → IsKnownTurn n store (pursued d store k s)
  pursued-known n store zero s known = (s, refl, known)
  pursued-known n store (suc k) s known = by (d.turn store s) refl (pursued-known n store k)
    where
      reply_by : (asked : Asked) (next : Reply → D) → d.turn store s ≡ asks asked next → (o : Option Reply) → decided store asked.question ≡ o →
          ((t : D) → IsKnown n store t → IsKnownTurn n store (pursued d store k t)) → IsKnownTurn n store (unless_decided (pursued d store k) asked next o)
      reply_by asked next is None o rest = (s, is, known)
      reply_by asked next is (Some r) o rest = rest (next r) (keeps.kept n store s asked next r is o known)

      by : (turn : Turn D E) → d.turn store s ≡ turn → ((t : D) → IsKnown n store t → IsKnownTurn n store (pursued d store k t)) → IsKnownTurn n store (settled store (pursued d store k) turn)
      by (asks asked next) is rest = reply_by asked next is (decided store asked.question) refl rest
      by (goes t) is rest = rest t (keeps.going n store s t is known)
      by (ends e) is rest = (s, is, known)

  pub next_turn-known : (n : ℕ) (store : Store) (s : D) → IsKnown n store s → IsKnownTurn n store (next_turn d store s)
  next_turn-known n store s known = pursued-known n store (d.bound store s) s known

  -- of a state that is known the next turn asks about and finds what is named, and asks what may be asked
  pub asked-named : (n : ℕ) (store : Store) (s : D) (asked : Asked) (next : Reply → D) → next_turn d store s ≡ asks asked next → IsKnown n store s → QuestionIsNamed n asked.question
  asked-named n store s asked next is known =
      let t = next_turn-known n store s known in keeps.question n store t.0 asked next (t.1 ∙ is) t.2

  pub asked-may : (n : ℕ) (store : Store) (s : D) (asked : Asked) (next : Reply → D) → next_turn d store s ≡ asks asked next → IsKnown n store s → MayAsk asked.question
  asked-may n store s asked next is known =
      let t = next_turn-known n store s known in keeps.may_ask n store t.0 asked next (t.1 ∙ is) t.2

  pub found-named : (n : ℕ) (store : Store) (s : D) (e : E) → next_turn d store s ≡ ends e → IsKnown n store s → EntryIsNamed n (found e)
  found-named n store s e is known =
      let t = next_turn-known n store s known in keeps.finding n store t.0 e (t.1 ∙ is) t.2

  pub replied-known : (n : ℕ) (store : Store) (s : D) (asked : Asked) (next : Reply → D) (r : Reply) → next_turn d store s ≡ asks asked next → FitsAsked asked r → ReplyIsNamed n r →
      IsKnown n store s → IsKnown n (with_pair store asked.question r) (next r)
  replied-known n store s asked next r is fits named known =
      let t = next_turn-known n store s known in keeps.replied n store t.0 asked next r (t.1 ∙ is) fits named t.2
