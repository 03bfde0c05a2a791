-- A text divides in one way.
use Rattle.std.proofs.Common.{◌≡◌, ℕ, List, length, inl, inr, Result, Ok, Err, sym, ap, subst, arith}
use Rattle.std.specs.Prelude.{IsUtf8}
use Rattle.std.specs.Str.{IsValidUpTo}
use Rattle.std.proofs.lemmas.List.{take_all}
use Rattle.std.proofs.lemmas.Bool.Decides.{leb_tells}
use Rattle.apd_causes.specs.declared.faults.TokenFault.{TokenFault}
use Rattle.apd_causes.specs.declared.faults.TokenFault.TheVariants as faults
use Rattle.apd_token.specs.declared.items.Token.{Token}
use Rattle.apd_token.specs.Grammar.{HasTokens, HasFault}
use Rattle.apd_token.specs.Division.{IsDivided}
use Rattle.apd_token.proofs.Unique.{one_tokens, one_fault, no_tokens_at_fault}

-- a text that is UTF-8 up to a place only isn't UTF-8
not_utf8 : (text : List ℕ) (n : ℕ) → IsValidUpTo text n → IsUtf8 text → ⊥
not_utf8 text n v u = v.longest (length text) v.short (subst IsUtf8 (sym (take_all (length text) text (omega arith))) u)

one_place : (text : List ℕ) (m n : ℕ) → IsValidUpTo text m → IsValidUpTo text n → m ≡ n
one_place text m n u v = elim (leb_tells m n) [
  | inl a ↦ elim (leb_tells n m) [ inl b ↦ let x = a.1 in let y = b.1 in omega arith | inr b ↦ absurd (u.longest n b.1 v.front) ]
  | inr b ↦ absurd (v.longest m b.1 u.front)
]

-- a fault of the text's bytes as characters, or of its division
data Seen (text : List ℕ) : TokenFault → Type 0 where
  not_characters : (n : ℕ) → IsValidUpTo text n → Seen text (faults.NotUtf8 n)
  not_items : {f : TokenFault} → IsUtf8 text → HasFault text f → Seen text f

seen : (text : List ℕ) (f : TokenFault) → IsDivided text (Err f) → Seen text f
seen text (faults.NotUtf8 n) h = not_characters n h
seen text (faults.BadChar n) h = not_items h.0 h.1
seen text (faults.OpenQuote n) h = not_items h.0 h.1
seen text (faults.OpenComment n) h = not_items h.0 h.1
seen text (faults.BadEscape n) h = not_items h.0 h.1
seen text (faults.NumberTooWide n) h = not_items h.0 h.1
seen text (faults.FloatLiteral n) h = not_items h.0 h.1
seen text faults.Memory h = absurd h

same_fault : (text : List ℕ) (f g : TokenFault) → Seen text f → Seen text g → f ≡ g
same_fault text f g (not_characters m u) (not_characters n v) = ap faults.NotUtf8 (one_place text m n u v)
same_fault text f g (not_characters m u) (not_items w h) = absurd (not_utf8 text m u w)
same_fault text f g (not_items w h) (not_characters n v) = absurd (not_utf8 text n v w)
same_fault text f g (not_items w h) (not_items x k) = one_fault text f g h k

no_tokens : (text : List ℕ) (ts : List Token) (f : TokenFault) → IsUtf8 text → HasTokens text ts → Seen text f → ⊥
no_tokens text ts f u h (not_characters n v) = not_utf8 text n v u
no_tokens text ts f u h (not_items w k) = no_tokens_at_fault text ts f h k

pub one_answer : (text : List ℕ) (a b : Result (List Token) TokenFault) → IsDivided text a → IsDivided text b → a ≡ b
one_answer text (Ok ts) (Ok us) p q = let e = one_tokens text ts us p.1 q.1 in ap Ok e
one_answer text (Ok ts) (Err g) p q = absurd (no_tokens text ts g p.0 p.1 (seen text g q))
one_answer text (Err f) (Ok us) p q = absurd (no_tokens text us f q.0 q.1 (seen text f p))
one_answer text (Err f) (Err g) p q = let e = same_fault text f g (seen text f p) (seen text g q) in ap Err e
