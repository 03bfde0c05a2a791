-- What is uttered: entries of a log, with the texts that they are printed as.
use Rattle.std.specs.Prelude.{ℕ, ◌≡◌, ◌⊎◌, List, [], ◌∷◌, ◌++◌, Option, map, flat_map}
use Rattle.apd_io.specs.Outside.{Adds}

-- an entry and its text, which need not follow from the entry alone
pub record Utterance (E : Type 0) : Type 0 where
  pub entry : E
  pub text : List ℕ

abbrev pub entries_of : {E : Type 0} → List (Utterance E) → List E
entries_of us = map (λ u. u.entry) us

unfoldable pub texts_of : {E : Type 0} → List (Utterance E) → List ℕ
texts_of us = flat_map (λ u. u.text) us

-- the log gained the entries of these, and the sink their texts
pub record Utters {E : Type 0} (log log_now : List E) (held held_now : Option (List ℕ)) (us : List (Utterance E)) : Type 0 where
  pub logged : log_now ≡ log ++ entries_of us
  pub adds : Adds held held_now (texts_of us)

-- the log gained the entries of these; `begun` gives what the last one may stand as while its text is printed
abbrev pub Pushed : {E : Type 0} → (E → E) → List E → List E → List (Utterance E) → Type 0
Pushed {E} begun log log_now us = (log_now ≡ log ++ entries_of us)
    ⊎ ((before : List (Utterance E)) × (last : Utterance E) × (us ≡ before ++ last ∷ []) × (log_now ≡ log ++ (entries_of before ++ begun last.entry ∷ [])))

-- what is lost is the end of the last one's text, or nothing
abbrev pub IsLostOfLast : {E : Type 0} → List (Utterance E) → List ℕ → Type 0
IsLostOfLast {E} said lost = (lost ≡ []) ⊎ ((before : List (Utterance E)) × (last : Utterance E) × (part : List ℕ) × (said ≡ before ++ last ∷ []) × (last.text ≡ part ++ lost))

-- the log gained the first of these, and the sink their texts, of which only the last may lack its end
pub record UttersFront {E : Type 0} (begun : E → E) (log log_now : List E) (held held_now : Option (List ℕ)) (us : List (Utterance E)) : Type 0 where
  pub said : List (Utterance E)
  pub unsaid : List (Utterance E)
  pub parts : us ≡ said ++ unsaid
  pub pushed : Pushed begun log log_now said
  pub shown : List ℕ
  pub lost : List ℕ
  pub texts : texts_of said ≡ shown ++ lost
  pub last : IsLostOfLast said lost
  pub adds : Adds held held_now shown
