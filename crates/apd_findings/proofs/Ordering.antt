-- Orders of calls by their numbers tell what follows of calls that aren't below another.
use Rattle.std.proofs.Common.{◌≡◌, ◌≢◌, ◌↔◌, ◌⊎◌, inl, inr, ◌<◌, ◌+◌, ◌++◌, get_or, ℕ, zero, suc, Bool, true, false, cond, if◌then◌else◌, List, [], ◌∷◌, length, map, Option, Some, Result, Ok, Err, refl, sym, ap, ◌∙◌, subst, arith}
use Rattle.std.specs.Prelude.{IsTrue, IfOk, IfSome, nat_eq, slice_set}
use Rattle.std.specs.declared.alloc.AllocError.{AllocError}
use Rattle.std.specs.Map.{lookup}
use Rattle.std.proofs.lemmas.Bool.{cases_eq, eqb-true}
use Rattle.std.proofs.lemmas.Option.{IfSome_then}
use Rattle.indexmap.specs.IndexMap.{get}
use Rattle.apd_term.specs.Term.{Term, IsAmong}
use Rattle.apd_term.specs.Canonical.{canonical}
use Rattle.apd_term.proofs.Among.{IsAmong-append, IsAmong-left, IsAmong-right}
use Rattle.apd_term.proofs.Variants.{canonical-canonical}
use Rattle.apd_answers.specs.Findings.{Apart, same, said, through}
use Rattle.apd_answers.specs.Store.{Store, SomePairIn, TellsBelow, is_kept_in, with_pair_in}
use Rattle.apd_answers.specs.declared.question.Question.{Question}
use Rattle.apd_answers.specs.declared.question.Question.TheVariants as asks
use Rattle.apd_answers.specs.declared.question.Reply.{Reply}
use Rattle.apd_answers.specs.declared.question.Reply.TheVariants.{Yes, No}
use Rattle.apd_answers.specs.declared.store.Pair.{Pair}
use Rattle.apd_marks.specs.Places.{Index}
use Rattle.apd_marks.specs.declared.keys.KeyPart.{KeyPart}
use Rattle.apd_bits.specs.Rows.{HasBit, has_bit}
use Rattle.apd_findings.specs.declared.orders.Orders.{Orders}
use Rattle.apd_findings.specs.Keys.{HasNumber}
use Rattle.apd_findings.specs.Ordering.{AreOrders, AreSaid, IsListed, IsNumbered, IsReached, IsSaid, Says, keys_of}
use Rattle.apd_findings.specs.Reaching.{AreEdges, AreReached, AreWithin, HasReached, HasSome, IsEdgeAmong, IsRowOf, Reaches, here, on}
use Rattle.apd_findings.specs.declared.reaching.Edge.{Edge}
use Rattle.apd_findings.proofs.Marked.{at-default}
use Rattle.apd_findings.proofs.Numbers.{like-number, same-form, same-number, within-number}
use Rattle.apd_findings.proofs.Walks.{row-exact}
use Rattle.apd_findings.proofs.Tests.{says_below-is, says_not_below-is}

-- What the pairs say.

tells-like : (r : Reply) (x y s t : Term) (q : Question) (reply : Reply) → canonical x ≡ canonical s → canonical y ≡ canonical t → TellsBelow r x y q reply → TellsBelow r s t q reply
tells-like r x y s t (asks.True a) reply e f h = absurd h
tells-like r x y s t (asks.Covers a) reply e f h = absurd h
tells-like r x y s t (asks.Below a b) reply e f h = (h.0, h.1 ∙ e, h.2 ∙ f)

said-like : (pairs : List Pair) (r : Reply) (x y s t : Term) → canonical x ≡ canonical s → canonical y ≡ canonical t → IsSaid pairs r x y → IsSaid pairs r s t
said-like [] r x y s t e f h = absurd h
said-like (p ∷ pairs) r x y s t e f (inl h) = inl (tells-like r x y s t p.question p.reply e f h)
said-like (p ∷ pairs) r x y s t e f (inr h) = inr (said-like pairs r x y s t e f h)

pair-more : (P : Question → Reply → Type 0) (pairs more : List Pair) → SomePairIn P pairs → SomePairIn P (pairs ++ more)
pair-more P [] more h = absurd h
pair-more P (p ∷ pairs) more (inl h) = inl h
pair-more P (p ∷ pairs) more (inr h) = inr (pair-more P pairs more h)

pair-last : (P : Question → Reply → Type 0) (pairs : List Pair) (p : Pair) → P p.question p.reply → SomePairIn P (pairs ++ p ∷ [])
pair-last P [] p h = inl h
pair-last P (x ∷ pairs) p h = inr (pair-last P pairs p h)

pair-split : (P : Question → Reply → Type 0) (pairs : List Pair) (p : Pair) → SomePairIn P (pairs ++ p ∷ []) → SomePairIn P pairs ⊎ P p.question p.reply
pair-split P [] p (inl h) = inr h
pair-split P [] p (inr h) = absurd h
pair-split P (x ∷ pairs) p (inl h) = inl (inl h)
pair-split P (x ∷ pairs) p (inr h) = elim (pair-split P pairs p h) [ inl a ↦ inl (inr a) | inr b ↦ inr b ]

said-more : (pairs : List Pair) (q : Question) (r k : Reply) (x y : Term) → IsSaid pairs k x y → IsSaid (with_pair_in pairs q r) k x y
said-more pairs q r k x y h = by (is_kept_in pairs q r)
  where
    by : (b : Bool) → IsSaid (if b then pairs else pairs ++ record { question = q; reply = r } ∷ []) k x y
    by true = h
    by false = pair-more (TellsBelow k x y) pairs (record { question = q; reply = r } ∷ []) h

said-before : (pairs : List Pair) (q : Question) (r k : Reply) (x y : Term) → IsSaid (with_pair_in pairs q r) k x y → IsSaid pairs k x y ⊎ TellsBelow k x y q r
said-before pairs q r k x y h = by (is_kept_in pairs q r) h
  where
    by : (b : Bool) → IsSaid (if b then pairs else pairs ++ record { question = q; reply = r } ∷ []) k x y → IsSaid pairs k x y ⊎ TellsBelow k x y q r
    by true g = inl g
    by false g = pair-split (TellsBelow k x y) pairs (record { question = q; reply = r }) g

-- a reply that is kept was given
abbrev Keeps : Reply → Type 0
Keeps r = (pairs : List Pair) (x y : Term) → is_kept_in pairs (asks.Below x y) r ≡ true → IsSaid pairs r x y

keeps-yes : Keeps Yes
keeps-yes pairs x y e = (says_below-is (record { pairs = pairs; trusted = [] }) x y).0 e

keeps-no : Keeps No
keeps-no pairs x y e = (says_not_below-is (record { pairs = pairs; trusted = [] }) x y).0 e

said-now : (r : Reply) → Keeps r → (pairs : List Pair) (x y : Term) → IsSaid (with_pair_in pairs (asks.Below x y) r) r x y
said-now r keeps pairs x y = by (is_kept_in pairs (asks.Below x y) r) refl
  where
    by : (b : Bool) → is_kept_in pairs (asks.Below x y) r ≡ b → IsSaid (if b then pairs else pairs ++ record { question = asks.Below x y; reply = r } ∷ []) r x y
    by true e = keeps pairs x y e
    by false e = pair-last (TellsBelow r x y) pairs (record { question = asks.Below x y; reply = r }) (refl, refl, refl)

-- The lists of the numbers.

none-listed : (keys : List (List KeyPart)) (r : Reply) → AreSaid [] r keys []
none-listed keys r = record { sound = λ low high a. absurd a; whole = λ x y h. absurd h }

-- one more list, which is empty
pub pushed-count : (lists lists_new : List (List ℕ)) (x : List ℕ) → lists_new ≡ lists ++ x ∷ [] → length lists_new ≡ length lists + 1
pushed-count lists lists_new x e = ap length e ∙ by lists
  where
    by : (ls : List (List ℕ)) → length (ls ++ x ∷ []) ≡ length ls + 1
    by [] = refl
    by (l ∷ ls) = let h = by ls in omega (arith, h)

pub pushed-empty : (lists lists_new : List (List ℕ)) (x : List ℕ) → lists_new ≡ lists ++ x ∷ [] → x ≡ [] → (i : ℕ) → get_or lists_new i [] ≡ get_or lists i []
pushed-empty lists lists_new x e f i = ap (λ ls. get_or ls i []) e ∙ by lists i
  where
    by : (ls : List (List ℕ)) (i : ℕ) → get_or (ls ++ x ∷ []) i [] ≡ get_or ls i []
    by [] zero = f
    by [] (suc i) = refl
    by (l ∷ ls) zero = refl
    by (l ∷ ls) (suc i) = by ls i

-- one more call has a number
numbered-said : (pairs : List Pair) (r : Reply) (keys keys_new : List (List KeyPart)) (lists lists_new : List (List ℕ)) → ((t : Term) (i : ℕ) → HasNumber keys t i → HasNumber keys_new t i)
    → ((i : ℕ) → get_or lists_new i [] ≡ get_or lists i []) → AreSaid pairs r keys lists → AreSaid pairs r keys_new lists_new
numbered-said pairs r keys keys_new lists lists_new kept is h = record {
  sound = λ low high a.
      let s = h.sound low high (subst (λ ns. IsAmong ns high) (is low) a) in
      record { callee = s.callee; caller = s.caller; is_said = s.is_said; is_low = kept s.callee low s.is_low; is_high = kept s.caller high s.is_high };
  whole = λ x y g.
      let w = h.whole x y g in
      record { low = w.low; high = w.high; is_low = kept x w.low w.is_low; is_high = kept y w.high w.is_high; among = subst (λ ns. IsAmong ns w.high) (sym (is w.low)) w.among };
}

-- what is reached is the same where the lists are
module _ (lists more : List (List ℕ)) (is : (i : ℕ) → get_or more i [] ≡ get_or lists i []) (fresh : List Edge) where
  same-edges : AreEdges lists fresh → AreEdges more fresh
  same-edges h a b e = subst (λ ns. IsAmong ns b) (sym (is a)) (h a b e)

  same-reaches : (first n : ℕ) → Reaches lists first n → Reaches more first n
  same-reaches first n here = here
  same-reaches first n (on a b r i) = on a b (same-reaches first a r) (subst (λ ns. IsAmong ns b) (sym (is a)) i)

  same-reached : (rows : Index) → AreReached lists fresh rows → AreReached more fresh rows
  same-reached rows h first = IfSome_then (get nat_eq rows first) (h first) (λ row r. record {
    start = r.start;
    right = λ n b. same-reaches first n (r.right n b);
    closed = λ a b s i. r.closed a b s (subst (λ ns. IsAmong ns b) (is a) i);
  })

pub no-rows : (lists : List (List ℕ)) (fresh : List Edge) (rows : Index) → rows.entries ≡ [] → AreReached lists fresh rows
no-rows lists fresh rows e first = subst (λ (o : Option (List ℕ)). IfSome o (IsRowOf lists fresh first)) (sym (ap (λ es. lookup (nat_eq first) es) e)) tt

no-edges : (lists : List (List ℕ)) (fresh : List Edge) → fresh ≡ [] → AreEdges lists fresh
no-edges lists fresh e a b h = absurd (subst (λ es. IsEdgeAmong es a b) e h)

pub none-said : (o : Orders) → o.keys.keys ≡ [] → o.above.items ≡ [] → o.denied.items ≡ [] → o.reached.entries ≡ [] → o.fresh.items ≡ [] → AreOrders [] o
none-said o k a d r f = record {
  lists = record { above = ap length a ∙ sym (ap (λ ks. length (map (λ v. v.items) ks)) k); denied = ap length d ∙ sym (ap (λ ks. length (map (λ v. v.items) ks)) k) };
  yes = subst (λ ls. AreSaid [] Yes (keys_of o) ls) (sym a) (none-listed (keys_of o) Yes);
  no = subst (λ ls. AreSaid [] No (keys_of o) ls) (sym d) (none-listed (keys_of o) No);
  edges = no-edges o.above.items o.fresh.items f;
  rows = no-rows o.above.items o.fresh.items o.reached r;
}

numbered : (pairs : List Pair) (old new : Orders) (call : Term) (n : ℕ) → IsNumbered old new call n → AreOrders pairs old → AreOrders pairs new
numbered pairs old new call n k h = record {
  lists = k.lists;
  yes = numbered-said pairs Yes (keys_of old) (keys_of new) old.above.items new.above.items k.kept k.above h.yes;
  no = numbered-said pairs No (keys_of old) (keys_of new) old.denied.items new.denied.items k.kept k.denied h.no;
  edges = subst (λ v. AreEdges new.above.items v.items) (sym k.fresh) (same-edges old.above.items new.above.items k.above old.fresh.items h.edges);
  rows = subst (λ v. AreReached new.above.items v.items new.reached) (sym k.fresh)
      (subst (AreReached new.above.items old.fresh.items) (sym k.rows) (same-reached old.above.items new.above.items k.above old.fresh.items old.reached h.rows));
}

-- a pair that doesn't give this reply
kept-said : (pairs : List Pair) (q : Question) (r k : Reply) (keys : List (List KeyPart)) (lists : List (List ℕ)) → ((x y : Term) → ¬ TellsBelow k x y q r) → AreSaid pairs k keys lists → AreSaid (with_pair_in pairs q r) k keys lists
kept-said pairs q r k keys lists other h = record {
  sound = λ low high a.
      let s = h.sound low high a in
      record { callee = s.callee; caller = s.caller; is_said = said-more pairs q r k s.callee s.caller s.is_said; is_low = s.is_low; is_high = s.is_high };
  whole = λ x y g. elim (said-before pairs q r k x y g) [ inl b ↦ h.whole x y b | inr t ↦ absurd (other x y t) ];
}

-- the list of one number has one more
pub record IsPushed (lists : List (List ℕ)) (low high : ℕ) (lists_new : List (List ℕ)) : Type 0 where
  pub count : length lists_new ≡ length lists
  pub there : get_or lists_new low [] ≡ get_or lists low [] ++ high ∷ []
  pub others : (i : ℕ) → i ≢ low → get_or lists_new i [] ≡ get_or lists i []

pub pushed : (lists : List (List ℕ)) (low high : ℕ) (old new : List ℕ) → low < length lists → old ≡ get_or lists low old → new ≡ old ++ high ∷ [] → IsPushed lists low high (slice_set lists low new)
pushed lists low high old new l e f = record {
  count = same-length lists low;
  there = here lists low l ∙ f ∙ ap (λ xs. xs ++ high ∷ []) (at-default lists low old [] l e);
  others = others lists low;
}
  where
    same-length : (ls : List (List ℕ)) (i : ℕ) → length (slice_set ls i new) ≡ length ls
    same-length [] i = refl
    same-length (x ∷ ls) zero = refl
    same-length (x ∷ ls) (suc i) = let h = same-length ls i in omega (arith, h)

    here : (ls : List (List ℕ)) (i : ℕ) → i < length ls → get_or (slice_set ls i new) i [] ≡ new
    here [] i m = absurd (omega (arith, m))
    here (x ∷ ls) zero m = refl
    here (x ∷ ls) (suc i) m = here ls i (omega (arith, m))

    others : (ls : List (List ℕ)) (i j : ℕ) → j ≢ i → get_or (slice_set ls i new) j [] ≡ get_or ls j []
    others [] i j n = refl
    others (x ∷ ls) zero zero n = absurd (n refl)
    others (x ∷ ls) zero (suc j) n = refl
    others (x ∷ ls) (suc i) zero n = refl
    others (x ∷ ls) (suc i) (suc j) n = others ls i j (λ e. n (ap suc e))

module _ (lists : List (List ℕ)) (low high : ℕ) (lists_new : List (List ℕ)) (p : IsPushed lists low high lists_new) where
  pushed-still : (l m : ℕ) → IsAmong (get_or lists l []) m → IsAmong (get_or lists_new l []) m
  pushed-still l m a = elim (cases_eq l low) [
    | inl e ↦ subst (λ ns. IsAmong ns m) (sym (ap (λ i. get_or lists_new i []) e ∙ p.there)) (IsAmong-left (get_or lists low []) (high ∷ []) m (subst (λ i. IsAmong (get_or lists i []) m) e a))
    | inr n ↦ subst (λ ns. IsAmong ns m) (sym (p.others l n)) a
  ]

  pushed-there : IsAmong (get_or lists_new low []) high
  pushed-there = subst (λ ns. IsAmong ns high) (sym p.there) (IsAmong-right (get_or lists low []) (high ∷ []) high (inl refl))

  pushed-before : (l m : ℕ) → IsAmong (get_or lists_new l []) m → IsAmong (get_or lists l []) m ⊎ ((low ≡ l) × (high ≡ m))
  pushed-before l m a = elim (cases_eq l low) [
    | inl e ↦ elim (IsAmong-append (get_or lists low []) (high ∷ []) m (subst (λ ns. IsAmong ns m) (ap (λ i. get_or lists_new i []) e ∙ p.there) a)) [
      | inl b ↦ inl (subst (λ i. IsAmong (get_or lists i []) m) (sym e) b)
      | inr b ↦ elim b [ inl f ↦ inr (sym e, f) | inr z ↦ absurd z ]
    ]
    | inr n ↦ inl (subst (λ ns. IsAmong ns m) (p.others l n) a)
  ]

pushed-said : (pairs : List Pair) (r : Reply) → Keeps r → (x y : Term) (keys : List (List KeyPart)) (lists lists_new : List (List ℕ)) (low high : ℕ) → HasNumber keys x low → HasNumber keys y high
    → IsPushed lists low high lists_new → AreSaid pairs r keys lists → AreSaid (with_pair_in pairs (asks.Below x y) r) r keys lists_new
pushed-said pairs r keeps x y keys lists lists_new low high is_low is_high p h = record { sound = sound; whole = whole }
  where
    new : List Pair
    new = with_pair_in pairs (asks.Below x y) r

    old-says : (l m : ℕ) → Says pairs r keys l m → Says new r keys l m
    old-says l m s = record { callee = s.callee; caller = s.caller; is_said = said-more pairs (asks.Below x y) r r s.callee s.caller s.is_said; is_low = s.is_low; is_high = s.is_high }

    this-says : (l m : ℕ) → l ≡ low → m ≡ high → Says new r keys l m
    this-says l m e f = record { callee = x; caller = y; is_said = said-now r keeps pairs x y; is_low = subst (HasNumber keys x) (sym e) is_low; is_high = subst (HasNumber keys y) (sym f) is_high }

    sound : (l m : ℕ) → IsAmong (get_or lists_new l []) m → Says new r keys l m
    sound l m a = elim (pushed-before lists low high lists_new p l m a) [ inl b ↦ old-says l m (h.sound l m b) | inr e ↦ this-says l m (sym e.0) (sym e.1) ]

    whole : (s t : Term) → IsSaid new r s t → IsListed keys lists_new s t
    whole s t g = elim (said-before pairs (asks.Below x y) r r s t g) [
      | inl b ↦ (let w = h.whole s t b in record { low = w.low; high = w.high; is_low = w.is_low; is_high = w.is_high; among = pushed-still lists low high lists_new p w.low w.high w.among })
      | inr k ↦ record {
        low = low;
        high = high;
        is_low = like-number keys x s low k.1 is_low;
        is_high = like-number keys y t high k.2 is_high;
        among = pushed-there lists low high lists_new p;
      }
    ]

-- one more edge is fresh
edge-left : (edges more : List Edge) (a b : ℕ) → IsEdgeAmong edges a b → IsEdgeAmong (edges ++ more) a b
edge-left [] more a b h = absurd h
edge-left (e ∷ edges) more a b (inl h) = inl h
edge-left (e ∷ edges) more a b (inr h) = inr (edge-left edges more a b h)

edge-last : (edges : List Edge) (e : Edge) (a b : ℕ) → (e.from ≡ a) × (e.to ≡ b) → IsEdgeAmong (edges ++ e ∷ []) a b
edge-last [] e a b h = inl h
edge-last (x ∷ edges) e a b h = inr (edge-last edges e a b h)

edge-split : (edges : List Edge) (e : Edge) (a b : ℕ) → IsEdgeAmong (edges ++ e ∷ []) a b → IsEdgeAmong edges a b ⊎ ((e.from ≡ a) × (e.to ≡ b))
edge-split [] e a b (inl h) = inr h
edge-split [] e a b (inr z) = absurd z
edge-split (x ∷ edges) e a b (inl h) = inl (inl h)
edge-split (x ∷ edges) e a b (inr h) = elim (edge-split edges e a b h) [ inl g ↦ inl (inr g) | inr g ↦ inr g ]

module _ (lists : List (List ℕ)) (low high : ℕ) (lists_new : List (List ℕ)) (p : IsPushed lists low high lists_new) (fresh : List Edge) where
  abbrev fresher : List Edge
  fresher = fresh ++ record { from = low; to = high } ∷ []

  fresh-edges : AreEdges lists fresh → AreEdges lists_new fresher
  fresh-edges h a b e = elim (edge-split fresh (record { from = low; to = high }) a b e) [
    | inl g ↦ pushed-still lists low high lists_new p a b (h a b g)
    | inr g ↦ subst (λ m. IsAmong (get_or lists_new a []) m) g.1 (subst (λ l. IsAmong (get_or lists_new l []) high) g.0 (pushed-there lists low high lists_new p))
  ]

  fresh-reaches : (first n : ℕ) → Reaches lists first n → Reaches lists_new first n
  fresh-reaches first n here = here
  fresh-reaches first n (on a b r i) = on a b (fresh-reaches first a r) (pushed-still lists low high lists_new p a b i)

  fresh-reached : (rows : Index) → AreReached lists fresh rows → AreReached lists_new fresher rows
  fresh-reached rows h first = IfSome_then (get nat_eq rows first) (h first) (λ row r. record {
    start = r.start;
    right = λ n b. fresh-reaches first n (r.right n b);
    closed = λ a b s i. elim (pushed-before lists low high lists_new p a b i) [
      | inl o ↦ elim (r.closed a b s o) [ inl t ↦ inl t | inr g ↦ inr (edge-left fresh (record { from = low; to = high } ∷ []) a b g) ]
      | inr e ↦ inr (edge-last fresh (record { from = low; to = high }) a b e)
    ];
  })

-- one more reply
module _ (pairs : List Pair) (old mid now : Orders) (x y : Term) (low high : ℕ) (first : IsNumbered old mid x low) (second : IsNumbered mid now y high) (h : AreOrders pairs old) where
  there : AreOrders pairs now
  there = numbered pairs mid now y high second (numbered pairs old mid x low first h)

  pub put-yes : (new : Orders) → new.keys ≡ now.keys → new.denied ≡ now.denied → new.reached ≡ now.reached → new.fresh.items ≡ now.fresh.items ++ record { from = low; to = high } ∷ []
      → IsPushed now.above.items low high new.above.items → AreOrders (with_pair_in pairs (asks.Below x y) Yes) new
  put-yes new e f g d p =
      let k : keys_of new ≡ keys_of now = ap (λ s. map (λ v. v.items) s.keys) e in
      record {
        lists = record { above = p.count ∙ there.lists.above ∙ ap length (sym k); denied = ap (λ v. length v.items) f ∙ there.lists.denied ∙ ap length (sym k) };
        yes = subst (λ ks. AreSaid (with_pair_in pairs (asks.Below x y) Yes) Yes ks new.above.items) (sym k)
            (pushed-said pairs Yes keeps-yes x y (keys_of now) now.above.items new.above.items low high (second.kept x low first.number) second.number p there.yes);
        no = subst (λ ks. AreSaid (with_pair_in pairs (asks.Below x y) Yes) No ks new.denied.items) (sym k)
            (subst (λ v. AreSaid (with_pair_in pairs (asks.Below x y) Yes) No (keys_of now) v.items) (sym f)
            (kept-said pairs (asks.Below x y) Yes No (keys_of now) now.denied.items (λ s t k. (let z : Yes ≡ No = k.0 in cc)) there.no));
        edges = subst (AreEdges new.above.items) (sym d) (fresh-edges now.above.items low high new.above.items p now.fresh.items there.edges);
        rows = subst (λ es. AreReached new.above.items es new.reached) (sym d)
            (subst (AreReached new.above.items (now.fresh.items ++ record { from = low; to = high } ∷ [])) (sym g) (fresh-reached now.above.items low high new.above.items p now.fresh.items now.reached there.rows));
      }

  pub put-no : (new : Orders) → new.keys ≡ now.keys → new.above ≡ now.above → new.reached ≡ now.reached → new.fresh ≡ now.fresh → IsPushed now.denied.items low high new.denied.items
      → AreOrders (with_pair_in pairs (asks.Below x y) No) new
  put-no new e f g d p =
      let k : keys_of new ≡ keys_of now = ap (λ s. map (λ v. v.items) s.keys) e in
      record {
        lists = record { above = ap (λ v. length v.items) f ∙ there.lists.above ∙ ap length (sym k); denied = p.count ∙ there.lists.denied ∙ ap length (sym k) };
        yes = subst (λ ks. AreSaid (with_pair_in pairs (asks.Below x y) No) Yes ks new.above.items) (sym k)
            (subst (λ v. AreSaid (with_pair_in pairs (asks.Below x y) No) Yes (keys_of now) v.items) (sym f)
            (kept-said pairs (asks.Below x y) No Yes (keys_of now) now.above.items (λ s t k. (let z : No ≡ Yes = k.0 in cc)) there.yes));
        no = subst (λ ks. AreSaid (with_pair_in pairs (asks.Below x y) No) No ks new.denied.items) (sym k)
            (pushed-said pairs No keeps-no x y (keys_of now) now.denied.items new.denied.items low high (second.kept x low first.number) second.number p there.no);
        edges = subst (λ v. AreEdges new.above.items v.items) (sym d) (subst (λ v. AreEdges v.items now.fresh.items) (sym f) there.edges);
        rows = subst (λ v. AreReached new.above.items v.items new.reached) (sym d)
            (subst (AreReached new.above.items now.fresh.items) (sym g) (subst (λ v. AreReached v.items now.fresh.items now.reached) (sym f) there.rows));
      }

  pub put-yes-as : (r : Reply) (new : Orders) → r ≡ Yes → new.keys ≡ now.keys → new.denied ≡ now.denied → new.reached ≡ now.reached → new.fresh.items ≡ now.fresh.items ++ record { from = low; to = high } ∷ []
      → IsPushed now.above.items low high new.above.items → AreOrders (with_pair_in pairs (asks.Below x y) r) new
  put-yes-as r new is e f g d p = subst (λ (k : Reply). AreOrders (with_pair_in pairs (asks.Below x y) k) new) (sym is) (put-yes new e f g d p)

  pub put-no-as : (r : Reply) (new : Orders) → r ≡ No → new.keys ≡ now.keys → new.above ≡ now.above → new.reached ≡ now.reached → new.fresh ≡ now.fresh → IsPushed now.denied.items low high new.denied.items
      → AreOrders (with_pair_in pairs (asks.Below x y) r) new
  put-no-as r new is e f g d p = subst (λ (k : Reply). AreOrders (with_pair_in pairs (asks.Below x y) k) new) (sym is) (put-no new e f g d p)

  pub put-other : (r : Reply) → r ≢ Yes → r ≢ No → AreOrders (with_pair_in pairs (asks.Below x y) r) now
  put-other r e f = record {
    lists = there.lists;
    yes = kept-said pairs (asks.Below x y) r Yes (keys_of now) now.above.items (λ s t g. e g.0) there.yes;
    no = kept-said pairs (asks.Below x y) r No (keys_of now) now.denied.items (λ s t g. f g.0) there.no;
    edges = there.edges;
    rows = there.rows;
  }

pub low-within : (o : Orders) (mid now : Orders) (x y : Term) (low high : ℕ) → IsNumbered o mid x low → IsNumbered mid now y high → (low < length now.above.items) × (low < length now.denied.items)
low-within o mid now x y low high first second =
    let w = within-number (keys_of now) x low (second.kept x low first.number) in
    let a = second.lists.above in
    let d = second.lists.denied in
    (omega (arith, w, a), omega (arith, w, d))

pub not-below : (q : Question) (r : Reply) → ((a b : Term) → q ≡ asks.Below a b → ⊥) → (k : Reply) (x y : Term) → ¬ TellsBelow k x y q r
not-below (asks.True a) r none k x y h = h
not-below (asks.Covers t) r none k x y h = h
not-below (asks.Below a b) r none k x y h = none a b refl

-- a reply to another question
pub put-else : (pairs : List Pair) (q : Question) (r : Reply) (o : Orders) → ((k : Reply) (x y : Term) → ¬ TellsBelow k x y q r) → AreOrders pairs o → AreOrders (with_pair_in pairs q r) o
put-else pairs q r o other h = record {
  lists = h.lists;
  yes = kept-said pairs q r Yes (keys_of o) o.above.items (other Yes) h.yes;
  no = kept-said pairs q r No (keys_of o) o.denied.items (other No) h.no;
  edges = h.edges;
  rows = h.rows;
}

-- What is reached.

pub above-within : (pairs : List Pair) (o : Orders) → AreOrders pairs o → AreWithin o.above.items
above-within pairs o h a b i = let s = h.yes.sound a b i in let w = within-number (keys_of o) s.caller b s.is_high in let c = h.lists.above in omega (arith, w, c)

module _ (store : Store) (o : Orders) (h : AreOrders store.pairs o) where
  led : (p : Term) (high : ℕ) → canonical p ≡ p → HasNumber (keys_of o) p high → (a : ℕ) → Reaches o.above.items high a → (q r : Term) → canonical r ≡ r → HasNumber (keys_of o) r a → Apart store q r → Apart store q p
  led p high e is n here q r f k apart = let equal : r ≡ p = sym f ∙ same-form (keys_of o) r p n k is ∙ e in subst (Apart store q) equal apart
  led p high e is n (on a b reach i) q r f k apart =
      let s = h.yes.sound a b i in
      let low : Term = canonical s.callee in
      let below : IsSaid store.pairs Yes low r = said-like store.pairs Yes s.callee s.caller low r (sym (canonical-canonical s.callee)) (same-form (keys_of o) s.caller r b s.is_high k) s.is_said in
      led p high e is a reach q low (canonical-canonical s.callee) (like-number (keys_of o) s.callee low a (sym (canonical-canonical s.callee)) s.is_low) (through q low r below apart)

  reached-apart : (q p : Term) (low high : ℕ) → canonical q ≡ q → canonical p ≡ p → HasNumber (keys_of o) q low → HasNumber (keys_of o) p high → IsReached o.above.items o.denied.items low high → Apart store q p
  reached-apart q p low high e f is_low is_high (inl reach) = led p high f is_high low reach q q e is_low (same q)
  reached-apart q p low high e f is_low is_high (inr (n, i, reach)) =
      let s = h.no.sound low n i in
      let t : Term = canonical s.caller in
      let denied : IsSaid store.pairs No q t = said-like store.pairs No s.callee s.caller q t (same-form (keys_of o) s.callee q low s.is_low is_low) (sym (canonical-canonical s.caller)) s.is_said in
      led p high f is_high n reach q t (canonical-canonical s.caller) (like-number (keys_of o) s.caller t n (sym (canonical-canonical s.caller)) s.is_high) (said q t denied)

  record IsFound (q : Term) (high : ℕ) : Type 0 where
    low : ℕ
    is_low : HasNumber (keys_of o) q low
    reached : IsReached o.above.items o.denied.items low high

  found : (q t : Term) (a high : ℕ) → HasNumber (keys_of o) t a → Reaches o.above.items high a → Apart store q t → IsFound q high
  found q t a high is reach (same x) = record { low = a; is_low = is; reached = inl reach }
  found q t a high is reach (said x y no_reply) =
      let w = h.no.whole x y no_reply in
      let e : w.high ≡ a = same-number (keys_of o) y y w.high a refl w.is_high is in
      record { low = w.low; is_low = w.is_low; reached = inr (w.high, w.among, subst (Reaches o.above.items high) (sym e) reach) }
  found q t a high is reach (through x y r below rest) =
      let w = h.yes.whole y r below in
      let e : w.low ≡ a = same-number (keys_of o) y y w.low a refl w.is_low is in
      found q r w.high high w.is_high (on w.low w.high (subst (Reaches o.above.items high) (sym e) reach) w.among) rest

  pub no-caller : (q p : Term) → q ≢ p → ((n : ℕ) → ¬ HasNumber (keys_of o) p n) → false ≡ true ↔ Apart store q p
  no-caller q p differ none = (λ e. absurd (cc), λ apart. absurd (by q p differ none apart))
    where
      by : (q p : Term) → q ≢ p → ((n : ℕ) → ¬ HasNumber (keys_of o) p n) → Apart store q p → ⊥
      by q p differ none (same x) = differ refl
      by q p differ none (said x y no_reply) = let w = h.no.whole x y no_reply in none w.high w.is_high
      by q p differ none (through x y r below rest) = let w = h.yes.whole y r below in none w.low w.is_low

  pub no-callee : (q p : Term) (high : ℕ) → HasNumber (keys_of o) p high → ((n : ℕ) → ¬ HasNumber (keys_of o) q n) → false ≡ true ↔ Apart store q p
  no-callee q p high is none = (λ e. absurd (cc), λ apart. absurd (let f = found q p high high is here apart in none f.low f.is_low))

  apart-is : (q p : Term) (low high : ℕ) → canonical q ≡ q → canonical p ≡ p → HasNumber (keys_of o) q low → HasNumber (keys_of o) p high → IsReached o.above.items o.denied.items low high ↔ Apart store q p
  apart-is q p low high e f is_low is_high = (
    reached-apart q p low high e f is_low is_high,
    λ apart.
        let k = found q p high high is_high here apart in
        subst (λ n. IsReached o.above.items o.denied.items n high) (same-number (keys_of o) q q k.low low refl k.is_low is_low) k.reached,
  )

pub apart-here : (store : Store) (q p : Term) → q ≡ p → true ≡ true ↔ Apart store q p
apart-here store q p e = (λ k. subst (Apart store q) e (same q), λ h. refl)

pub apart-by : (o : Orders) (q p : Term) (low high : ℕ) (r : Result Bool AllocError) → canonical q ≡ q → canonical p ≡ p → HasNumber (keys_of o) q low → HasNumber (keys_of o) p high
    → IfOk r (λ b. IsTrue b ↔ IsReached o.above.items o.denied.items low high) → IfOk r (λ b. (store : Store) → AreOrders store.pairs o → IsTrue b ↔ Apart store q p)
apart-by o q p low high (Ok b) e f is_low is_high h = λ store orders. let k = apart-is store o orders q p low high e f is_low is_high in (λ t. k.0 (h.0 t), λ a. h.1 (k.1 a))
apart-by o q p low high (Err x) e f is_low is_high h = tt

-- The rows of what is reached.

pub met-here : (above denied : List (List ℕ)) (row : List ℕ) (low : ℕ) → HasBit row low → (high : ℕ) → HasReached above high row → true ≡ true ↔ IsReached above denied low high
met-here above denied row low b high h = (λ e. inl ((h low).0 b), λ k. refl)

pub met-denied : (above denied : List (List ℕ)) (row : List ℕ) (low : ℕ) (b : Bool) → has_bit row low ≡ false → b ≡ true ↔ HasSome row (get_or denied low []) → (high : ℕ) → HasReached above high row → b ≡ true ↔ IsReached above denied low high
met-denied above denied row low b unset some high h = (
  λ e. let s = some.0 e in inr (s.0, s.1, (h s.0).0 s.2),
  λ k. elim k [ inl r ↦ absurd (let t : true ≡ false = sym ((h low).1 r) ∙ unset in cc) | inr r ↦ some.1 (r.0, r.1, (h r.0).1 r.2) ],
)

pub row-is : (lists : List (List ℕ)) (fresh : List Edge) (rows : Index) (high : ℕ) (row : List ℕ) → AreReached lists fresh rows → get nat_eq rows high ≡ Some row → IsRowOf lists fresh high row
row-is lists fresh rows high row h e = subst (λ (o : Option (List ℕ)). IfSome o (IsRowOf lists fresh high)) e (h high)

pub caught-reached : (r : Result (List ℕ) AllocError) (lists ls : List (List ℕ)) (fresh es : List Edge) (high : ℕ) (row : List ℕ) → ls ≡ lists → es ≡ fresh → IsRowOf lists fresh high row
    → IfOk r (λ whole. (first : ℕ) → IsRowOf ls es first row → IsRowOf ls [] first whole) → IfOk r (HasReached lists high)
caught-reached (Ok whole) lists ls fresh es high row e f is h =
    row-exact lists high whole (subst (λ x. IsRowOf x [] high whole) e (h high (subst (λ x. IsRowOf x es high row) (sym e) (subst (λ y. IsRowOf lists y high row) (sym f) is))))
caught-reached (Err x) lists ls fresh es high row e f is h = tt

pub walked-reached : (r : Result (List ℕ) AllocError) (lists ls : List (List ℕ)) (rows : Index) (high : ℕ) → ls ≡ lists → rows.entries ≡ []
    → IfOk r (λ row. (fresh : List Edge) → AreReached ls fresh rows → IsRowOf ls fresh high row) → IfOk r (HasReached lists high)
walked-reached (Ok row) lists ls rows high e none h = row-exact lists high row (subst (λ x. IsRowOf x [] high row) e (h [] (no-rows ls [] rows none)))
walked-reached (Err x) lists ls rows high e none h = tt

-- one more row
pub row-kept : (lists : List (List ℕ)) (fresh : List Edge) (old new : Index) (high : ℕ) (row : List ℕ) → ((n : ℕ) → get nat_eq new n ≡ cond (nat_eq high n) (Some row) (get nat_eq old n)) → IsRowOf lists fresh high row
    → AreReached lists fresh old → AreReached lists fresh new
row-kept lists fresh old new high row e r h first = subst (λ (o : Option (List ℕ)). IfSome o (IsRowOf lists fresh first)) (sym (e first)) (by (nat_eq high first) refl)
  where
    by : (t : Bool) → nat_eq high first ≡ t → IfSome (cond t (Some row) (get nat_eq old first)) (IsRowOf lists fresh first)
    by true is = subst (λ n. IsRowOf lists fresh n row) (eqb-true high first is) r
    by false is = h first

pub same-rows : (lists : List (List ℕ)) (fresh : List Edge) (old new : Index) → new.entries ≡ old.entries → AreReached lists fresh old → AreReached lists fresh new
same-rows lists fresh old new e h first = subst (λ (o : Option (List ℕ)). IfSome o (IsRowOf lists fresh first)) (ap (λ es. lookup (nat_eq first) es) (sym e)) (h first)

pub other-rows : (pairs : List Pair) (old new : Orders) → new.keys ≡ old.keys → new.above ≡ old.above → new.denied ≡ old.denied → AreEdges old.above.items new.fresh.items → AreReached old.above.items new.fresh.items new.reached
    → AreOrders pairs old → AreOrders pairs new
other-rows pairs old new k a d es r h = record {
  lists = record { above = ap (λ v. length v.items) a ∙ h.lists.above ∙ sym keys; denied = ap (λ v. length v.items) d ∙ h.lists.denied ∙ sym keys };
  yes = subst (λ ks. AreSaid pairs Yes ks new.above.items) (sym is) (subst (λ v. AreSaid pairs Yes (keys_of old) v.items) (sym a) h.yes);
  no = subst (λ ks. AreSaid pairs No ks new.denied.items) (sym is) (subst (λ v. AreSaid pairs No (keys_of old) v.items) (sym d) h.no);
  edges = subst (λ v. AreEdges v.items new.fresh.items) (sym a) es;
  rows = subst (λ v. AreReached v.items new.fresh.items new.reached) (sym a) r;
}
  where
    is : keys_of new ≡ keys_of old
    is = ap (λ s. map (λ v. v.items) s.keys) k

    keys : length (keys_of new) ≡ length (keys_of old)
    keys = ap length is

-- nothing is kept, and no edge is fresh
pub forgotten : (pairs : List Pair) (old new : Orders) → new.keys ≡ old.keys → new.above ≡ old.above → new.denied ≡ old.denied → new.reached.entries ≡ [] → new.fresh.items ≡ [] → AreOrders pairs old → AreOrders pairs new
forgotten pairs old new k a d r f h = other-rows pairs old new k a d (no-edges old.above.items new.fresh.items f) (no-rows old.above.items new.fresh.items new.reached r) h
