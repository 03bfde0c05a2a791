-- How what is uttered goes on.
use Rattle.std.proofs.Common.{◌≡◌, ℕ, List, [], ◌∷◌, ◌++◌, refl, ap, sym, ◌∙◌, append_assoc, Option, inl, inr}
use Rattle.std.proofs.lemmas.List.{append-nil}
use Rattle.std.proofs.lemmas.Grind.{flat_map-append}
use Rattle.apd_io.specs.Outside.{Adds}
use Rattle.apd_console.specs.Print.{AddsFront}
use Rattle.apd_talk.specs.Utterance.{Utterance, entries_of, texts_of, Utters, Pushed, IsLostOfLast, UttersFront}
use Rattle.apd_console.proofs.Printing.{Adds-self, Adds-more}

pub entries_of-append : {E : Type 0} (us vs : List (Utterance E)) → entries_of (us ++ vs) ≡ entries_of us ++ entries_of vs
entries_of-append {E} [] vs = refl
entries_of-append {E} (u ∷ us) vs = ap (λ (es : List E). u.entry ∷ es) (entries_of-append us vs)

pub texts_of-append : {E : Type 0} (us vs : List (Utterance E)) → texts_of (us ++ vs) ≡ texts_of us ++ texts_of vs
unfolding texts_of
texts_of-append {E} us vs = flat_map-append (λ (u : Utterance E). u.text) us vs

pub texts_of-one : {E : Type 0} (u : Utterance E) → texts_of (u ∷ []) ≡ u.text
unfolding texts_of
texts_of-one u = append-nil u.text

-- nothing, or one utterance
pub Utters-nothing : {E : Type 0} (log : List E) (x : Option (List ℕ)) → Utters log log x x []
unfolding texts_of
Utters-nothing log x = record { logged = sym (append-nil log); adds = Adds-self x }

pub Utters-one : {E : Type 0} (log log_now : List E) (x y : Option (List ℕ)) (u : Utterance E) → log_now ≡ log ++ u.entry ∷ [] → Adds x y u.text → Utters log log_now x y (u ∷ [])
Utters-one log log_now x y u logged adds = record { logged = logged; adds = rw (texts_of-one u) adds }

pub Utters-more : {E : Type 0} (a b c : List E) (x y z : Option (List ℕ)) (us vs : List (Utterance E)) → Utters a b x y us → Utters b c y z vs → Utters a c x z (us ++ vs)
Utters-more {E} a b c x y z us vs first second = record {
  logged = second.logged ∙ ap (λ (l : List E). l ++ entries_of vs) first.logged ∙ append_assoc a (entries_of us) (entries_of vs) ∙ ap (λ (l : List E). a ++ l) (sym (entries_of-append us vs));
  adds = rw (texts_of-append us vs) (Adds-more x y z _ _ first.adds second.adds);
}

-- none of some utterances, or the front of one
pub UttersFront-none : {E : Type 0} (begun : E → E) (log log_now : List E) (x : Option (List ℕ)) (us : List (Utterance E)) → log_now ≡ log → UttersFront begun log log_now x x us
unfolding texts_of
UttersFront-none begun log log_now x us same = record {
  said = [];
  unsaid = us;
  parts = refl;
  pushed = inl (same ∙ sym (append-nil log));
  shown = [];
  lost = [];
  texts = refl;
  last = inl refl;
  adds = Adds-self x;
}

front_of : {E : Type 0} (begun : E → E) (log log_now : List E) (x y : Option (List ℕ)) (u : Utterance E) → Pushed begun log log_now (u ∷ []) → AddsFront x y u.text → UttersFront begun log log_now x y (u ∷ [])
front_of begun log log_now x y u pushed front = record {
  said = u ∷ [];
  unsaid = [];
  parts = refl;
  pushed = pushed;
  shown = front.1.shown;
  lost = front.0;
  texts = texts_of-one u ∙ front.1.parts;
  last = inr ([], u, front.1.shown, refl, front.1.parts);
  adds = front.1.adds;
}

pub UttersFront-one : {E : Type 0} (begun : E → E) (log log_now : List E) (x y : Option (List ℕ)) (u : Utterance E) → log_now ≡ log ++ u.entry ∷ [] → AddsFront x y u.text → UttersFront begun log log_now x y (u ∷ [])
UttersFront-one begun log log_now x y u logged front = front_of begun log log_now x y u (inl logged) front

-- where its entry isn't ended yet
pub UttersFront-begun : {E : Type 0} (begun : E → E) (log log_now : List E) (x y : Option (List ℕ)) (u : Utterance E) → log_now ≡ log ++ begun u.entry ∷ [] → AddsFront x y u.text → UttersFront begun log log_now x y (u ∷ [])
UttersFront-begun begun log log_now x y u logged front = front_of begun log log_now x y u (inr ([], u, refl, logged)) front

Pushed-more : {E : Type 0} (begun : E → E) (a b c : List E) (us said : List (Utterance E)) → b ≡ a ++ entries_of us → Pushed begun b c said → Pushed begun a c (us ++ said)
Pushed-more {E} begun a b c us said first (inl logged) = inl (logged ∙ ap (λ (l : List E). l ++ entries_of said) first ∙ append_assoc a (entries_of us) (entries_of said) ∙ ap (λ (l : List E). a ++ l) (sym (entries_of-append us said)))
Pushed-more {E} begun a b c us said first (inr (before, last, is, logged)) =
    let rest : List E = begun last.entry ∷ [] in
    inr (
      us ++ before,
      last,
      ap (λ (l : List (Utterance E)). us ++ l) is ∙ sym (append_assoc us before (last ∷ [])),
      logged ∙ ap (λ (l : List E). l ++ (entries_of before ++ rest)) first ∙ append_assoc a (entries_of us) (entries_of before ++ rest)
          ∙ ap (λ (l : List E). a ++ l) (sym (append_assoc (entries_of us) (entries_of before) rest) ∙ ap (λ (l : List E). l ++ rest) (sym (entries_of-append us before))),
    )

lost_more : {E : Type 0} (us said : List (Utterance E)) (lost : List ℕ) → IsLostOfLast said lost → IsLostOfLast (us ++ said) lost
lost_more us said lost (inl none) = inl none
lost_more {E} us said lost (inr (before, last, part, is, text)) =
    inr (us ++ before, last, part, ap (λ (l : List (Utterance E)). us ++ l) is ∙ sym (append_assoc us before (last ∷ [])), text)

-- the front of some utterances after all of others
pub UttersFront-more : {E : Type 0} (begun : E → E) (a b c : List E) (x y z : Option (List ℕ)) (us vs : List (Utterance E)) → Utters a b x y us → UttersFront begun b c y z vs → UttersFront begun a c x z (us ++ vs)
UttersFront-more {E} begun a b c x y z us vs first second = record {
  said = us ++ second.said;
  unsaid = second.unsaid;
  parts = ap (λ (l : List (Utterance E)). us ++ l) second.parts ∙ sym (append_assoc us second.said second.unsaid);
  pushed = Pushed-more begun a b c us second.said first.logged second.pushed;
  shown = texts_of us ++ second.shown;
  lost = second.lost;
  texts = texts_of-append us second.said ∙ ap (λ (l : List ℕ). texts_of us ++ l) second.texts ∙ sym (append_assoc (texts_of us) second.shown second.lost);
  last = lost_more us second.said second.lost second.last;
  adds = Adds-more x y z _ _ first.adds second.adds;
}

-- the front of some utterances is a front of more
pub UttersFront-less : {E : Type 0} (begun : E → E) (a b : List E) (x y : Option (List ℕ)) (us vs : List (Utterance E)) → UttersFront begun a b x y us → UttersFront begun a b x y (us ++ vs)
UttersFront-less {E} begun a b x y us vs front = record {
  said = front.said;
  unsaid = front.unsaid ++ vs;
  parts = ap (λ (l : List (Utterance E)). l ++ vs) front.parts ∙ append_assoc front.said front.unsaid vs;
  pushed = front.pushed;
  shown = front.shown;
  lost = front.lost;
  texts = front.texts;
  last = front.last;
  adds = front.adds;
}

-- all of some utterances is a front of them
pub UttersFront-all : {E : Type 0} (begun : E → E) (a b : List E) (x y : Option (List ℕ)) (us : List (Utterance E)) → Utters a b x y us → UttersFront begun a b x y us
UttersFront-all begun a b x y us all = record {
  said = us;
  unsaid = [];
  parts = sym (append-nil us);
  pushed = inl all.logged;
  shown = texts_of us;
  lost = [];
  texts = sym (append-nil (texts_of us));
  last = inl refl;
  adds = all.adds;
}
