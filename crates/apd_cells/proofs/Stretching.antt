-- What is put behind the cells for a clause's term where one symbol each is put for stretches of it.
use Rattle.std.proofs.Common.{◌≡◌, inl, inr, ℕ, zero, suc, ◌+◌, ◌<◌, ◌≤◌, List, [], ◌∷◌, ◌++◌, length, get_or, map, take, drop, refl, sym, ◌∙◌, ap, subst, arith, append_assoc}
use Rattle.std.specs.List.{flat_map}
use Rattle.std.proofs.Math.Seq.{take-add}
use Rattle.std.proofs.lemmas.List.{append-nil, append_cancel_left, drop_more, map-append, take_all, take-append-drop}
use Rattle.std.proofs.lemmas.List.Concat.{flat_map-append}
use Rattle.apd_term.specs.declared.term.Sym.{Sym}
use Rattle.apd_term.specs.declared.term.Sym.TheVariants.{Var, Int, Fun}
use Rattle.apd_term.specs.Canonical.{shifted}
use Rattle.apd_term.specs.Spelling.{image, variable_in, read_all-spell}
use Rattle.apd_term.specs.Term.{Term, integer, compound, more, terms_of, apply, apply_all, first_of, read_all, spell, term_of, IsAmong, IsTerms}
use Rattle.apd_term.proofs.Among.{IsAmong-append}
use Rattle.apd_term.proofs.Spelling.{IsTerms-tail, flat_map-variables, spell-apply, spell-compound, spell-injective, under_name}
use Rattle.apd_cells.specs.Stretches.{stretched, AreMeant, IsMeant, IsStretch}
use Rattle.apd_cells.specs.Slots.{slot_at, AreSlots, EachGetsOwn, IsPutFor, IsSet, PlacesNext, Places, HasPlaced, HasPut, put_for, put_symbol}
use Rattle.apd_cells.specs.Store.{above}
use Rattle.apd_cells.specs.declared.slots.Stretch.{Stretch}
use Rattle.apd_cells.specs.declared.slots.Slot.{Slot}
use Rattle.apd_cells.proofs.Appending.{above-append}
use Rattle.apd_cells.proofs.Loading.{above-ge}
use Rattle.apd_cells.proofs.Standing.{newer_self, newer_trans, same_puts, set_stays, shifted_zero, slots_more, images_put}

-- symbols without variables are put as they are, and mean themselves
fixed_put : (means : ℕ → Term) (cells : List Sym) (slots : List Slot) (xs : List Sym) → flat_map variable_in xs ≡ [] → flat_map (image means) (map (put_symbol cells slots) xs) ≡ xs
fixed_put means cells slots [] h = refl
fixed_put means cells slots (Var v ∷ xs) h = cc
fixed_put means cells slots (Int i ∷ xs) h = ap (λ z. Int i ∷ z) (fixed_put means cells slots xs h)
fixed_put means cells slots (Fun f n ∷ xs) h = ap (λ z. Fun f n ∷ z) (fixed_put means cells slots xs h)

-- the symbol of a stretch is put
module _ (cells : List Sym) (n : ℕ) (slots : List Slot) (symbols : List Sym) (at : ℕ) (c : Stretch) (k : IsStretch symbols c) (e : c.from ≡ at) where
  there : take c.size (drop at symbols) ≡ stretched symbols c
  there = ap (λ i. take c.size (drop i symbols)) (sym e)

  none_there : flat_map variable_in (take c.size (drop at symbols)) ≡ []
  none_there = ap (flat_map variable_in) there ∙ k.fixed

  pub next_copied : AreSlots cells n slots → PlacesNext cells n slots slots symbols at c
  next_copied h = record {
    some = k.some;
    within = omega (arith, k.within, e);
    slots = slots_more cells (c.symbol ∷ []) n (above n (variable_in c.symbol)) slots (above-ge n (variable_in c.symbol)) h;
    newer = newer_self n (cells ++ c.symbol ∷ []) slots;
    set = λ v i. absurd (subst (λ r. IsAmong r v) none_there i);
  }

  pub put_copied : (means : ℕ → Term) → IsMeant means symbols c → IsPutFor means cells slots symbols at c
  put_copied means m = m.is ∙ sym there ∙ sym (fixed_put means (cells ++ c.symbol ∷ []) slots (take c.size (drop at symbols)) none_there)

first_symbol_of : (symbols : List Sym) (at : ℕ) → at < length symbols → take 1 (drop at symbols) ≡ get_or symbols at (Var 0) ∷ []
first_symbol_of symbols at l = ap (take 1) (drop_more symbols at (Var 0) l)

variable_of_one : (x : Sym) (v : ℕ) → IsAmong (variable_in x) v → x ≡ Var v
variable_of_one (Var w) v (inl e) = ap Var e
variable_of_one (Var w) v (inr b) = absurd b
variable_of_one (Int i) v m = absurd m
variable_of_one (Fun f n) v m = absurd m

-- one symbol is put for one of the clause's
module _ (cells : List Sym) (n : ℕ) (old new : List Slot) (symbols : List Sym) (at : ℕ) (y : Sym) (l : at < length symbols) (p : Places cells n old new (get_or symbols at (Var 0)) y) where
  one_there : take 1 (drop at symbols) ≡ get_or symbols at (Var 0) ∷ []
  one_there = first_symbol_of symbols at l

  pub next_placed : PlacesNext cells n old new symbols at (record { from = at; size = 1; symbol = y })
  next_placed = record {
    some = omega arith;
    within = omega (arith, l);
    slots = p.slots;
    newer = p.newer;
    set = λ v i. p.set v (variable_of_one (get_or symbols at (Var 0)) v (subst (λ r. IsAmong r v) (ap (flat_map variable_in) one_there ∙ append-nil (variable_in (get_or symbols at (Var 0)))) i));
  }

  pub put_placed_one : (means : ℕ → Term) → IsPutFor means cells new symbols at (record { from = at; size = 1; symbol = y })
  put_placed_one means =
      ap (image means) p.put
      ∙ sym (append-nil (image means (put_symbol (cells ++ y ∷ []) new (get_or symbols at (Var 0)))))
      ∙ ap (λ zs. flat_map (image means) (map (put_symbol (cells ++ y ∷ []) new) zs)) (sym one_there)

-- under substitutions for which stretches are meant, symbols are what is put for a clause's
abbrev pub AreSameFor : List Stretch → List Sym → List Sym → List Sym → List Slot → List Sym → Type 0
AreSameFor copied symbols ys cells slots xs =
    (means : ℕ → Term) → AreMeant means symbols copied → flat_map (image means) ys ≡ flat_map (image means) (map (put_symbol cells slots) xs)

-- some symbols were put behind the cells for these
pub record Putting (copied : List Stretch) (symbols cells cells' : List Sym) (n n' : ℕ) (old new : List Slot) (xs : List Sym) : Type 0 where
  pub ys : List Sym
  pub put : cells' ≡ cells ++ ys
  pub count : n' ≡ above n (flat_map variable_in ys)
  pub same : AreSameFor copied symbols ys cells' new xs
  pub slots : AreSlots cells' n' new
  pub newer : EachGetsOwn n cells' old new
  pub set : (v : ℕ) → IsAmong (flat_map variable_in xs) v → IsSet (slot_at new v)

pub putting_first : (copied : List Stretch) (symbols cells new : List Sym) (n : ℕ) (slots : List Slot) → AreSlots cells n slots → new ≡ cells → Putting copied symbols cells new n n slots slots (take 0 symbols)
putting_first copied symbols cells new n slots h e = rw e (record {
  ys = [];
  put = sym (append-nil cells);
  count = refl;
  same = λ means a. refl;
  slots = h;
  newer = newer_self n cells slots;
  set = λ v m. absurd m;
})

-- one more symbol was put, for some more
module _ (copied : List Stretch) (symbols cells mid : List Sym) (n m : ℕ) (old ms new : List Slot) (xs zs : List Sym) (y : Sym) (h : Putting copied symbols cells mid n m old ms xs)
    (slots : AreSlots (mid ++ y ∷ []) (above m (variable_in y)) new) (newer : EachGetsOwn m (mid ++ y ∷ []) ms new) where
  same_next : ((means : ℕ → Term) → AreMeant means symbols copied → image means y ≡ flat_map (image means) (map (put_symbol (mid ++ y ∷ []) new) zs))
      → AreSameFor copied symbols (h.ys ++ y ∷ []) (mid ++ y ∷ []) new (xs ++ zs)
  same_next put = λ means a.
      let f = put_symbol (mid ++ y ∷ []) new in
      flat_map-append (image means) h.ys (y ∷ [])
      ∙ ap (λ z. flat_map (image means) h.ys ++ z) (append-nil (image means y) ∙ put means a)
      ∙ ap (λ z. z ++ flat_map (image means) (map f zs)) (h.same means a ∙ ap (flat_map (image means)) (sym (same_puts mid (y ∷ []) ms new m m xs h.slots newer h.set)))
      ∙ sym (flat_map-append (image means) (map f xs) (map f zs))
      ∙ ap (flat_map (image means)) (sym (map-append f xs zs))

  putting_on : ((means : ℕ → Term) → AreMeant means symbols copied → image means y ≡ flat_map (image means) (map (put_symbol (mid ++ y ∷ []) new) zs))
      → ((v : ℕ) → IsAmong (flat_map variable_in zs) v → IsSet (slot_at new v)) → Putting copied symbols cells (mid ++ y ∷ []) n (above m (variable_in y)) old new (xs ++ zs)
  putting_on put set = record {
    ys = h.ys ++ y ∷ [];
    put = ap (λ z. z ++ y ∷ []) h.put ∙ append_assoc cells h.ys (y ∷ []);
    count = ap (λ k. above k (variable_in y)) h.count
        ∙ sym (above-append n (flat_map variable_in h.ys) (variable_in y))
        ∙ ap (above n)
        (ap (λ z. flat_map variable_in h.ys ++ z) (sym (append-nil (variable_in y)))
        ∙ sym (flat_map-append variable_in h.ys (y ∷ [])));
    same = same_next put;
    slots = slots;
    newer = newer_trans mid (y ∷ []) n m m old ms new (omega (arith, h.count, above-ge n (flat_map variable_in h.ys))) h.slots h.newer newer;
    set = λ v i. elim (IsAmong-append (flat_map variable_in xs) (flat_map variable_in zs) v (subst (λ r. IsAmong r v) (flat_map-append variable_in xs zs) i)) [
      | inl a ↦ set_stays m (mid ++ y ∷ []) ms new v newer (h.set v a)
      | inr b ↦ set v b
    ];
  }

-- what is put next
pub putting_more : (copied : List Stretch) (symbols cells mid new : List Sym) (n m k : ℕ) (old ms slots : List Slot) (at end : ℕ) (c : Stretch)
    → Putting copied symbols cells mid n m old ms (take at symbols) → PlacesNext mid m ms slots symbols at c → ((means : ℕ → Term) → AreMeant means symbols copied → IsPutFor means mid slots symbols at c)
    → k ≡ above m (variable_in c.symbol) → new ≡ mid ++ c.symbol ∷ [] → end ≡ at + c.size → Putting copied symbols cells new n k old slots (take end symbols)
putting_more copied symbols cells mid new n m k old ms slots at end c h p put e q r =
    let t : take end symbols ≡ take at symbols ++ take c.size (drop at symbols) = ap (λ i. take i symbols) r ∙ take-add at c.size symbols in
    rw (q, e, t) (putting_on copied symbols cells mid n m old ms slots (take at symbols) (take c.size (drop at symbols)) c.symbol h p.slots p.newer put p.set)

-- symbols with an image that spells terms spell terms themselves
cancel : (t : Term) (s : List Sym) → IsTerms (spell t ++ s) → IsTerms s
cancel t s h =
    append_cancel_left (spell t) (flat_map spell (read_all s)) s (ap (flat_map spell) (sym (read_all-spell t s)) ∙ h)

apply_all-terms_of : (s : ℕ → Term) (ts : List Term) → apply_all s (terms_of ts) ≡ terms_of (map (apply s) ts)
apply_all-terms_of s [] = refl
apply_all-terms_of s (t ∷ ts) = ap (more (apply s t)) (apply_all-terms_of s ts)

map-take : (s : ℕ → Term) (n : ℕ) (ts : List Term) → map (apply s) (take n ts) ≡ take n (map (apply s) ts)
map-take s zero ts = refl
map-take s (suc n) [] = refl
map-take s (suc n) (t ∷ ts) = ap (λ r. apply s t ∷ r) (map-take s n ts)

map-drop : (s : ℕ → Term) (n : ℕ) (ts : List Term) → map (apply s) (drop n ts) ≡ drop n (map (apply s) ts)
map-drop s zero ts = refl
map-drop s (suc n) [] = refl
map-drop s (suc n) (t ∷ ts) = map-drop s n ts

length-mapped : (s : ℕ → Term) (ts : List Term) → length (map (apply s) ts) ≡ length ts
length-mapped s [] = refl
length-mapped s (t ∷ ts) = omega (arith, length-mapped s ts)

-- the symbols are terms, and what they are under the substitution
pub record AreTerms (s : ℕ → Term) (x : List Sym) : Type 0 where
  pub whole : IsTerms x
  pub read : read_all (flat_map (image s) x) ≡ map (apply s) (read_all x)

pub are_terms : (s : ℕ → Term) (x : List Sym) → IsTerms (flat_map (image s) x) → AreTerms s x
are_terms s [] h = record { whole = refl; read = refl }
are_terms s (Var v ∷ x) h =
    let k = are_terms s x (cancel (s v) (flat_map (image s) x) h) in
    record { whole = ap (λ r. Var v ∷ r) k.whole; read = read_all-spell (s v) (flat_map (image s) x) ∙ ap (λ r. s v ∷ r) k.read }
are_terms s (Int i ∷ x) h =
    let k = are_terms s x (IsTerms-tail (Int i) (flat_map (image s) x) h) in
    record { whole = ap (λ r. Int i ∷ r) k.whole; read = ap (λ r. integer i ∷ r) k.read }
are_terms s (Fun f n ∷ x) h =
    let y = flat_map (image s) x in
    let k = are_terms s x (IsTerms-tail (Fun f n) y h) in
    let ts = read_all x in
    let few : length (take n (read_all y)) ≡ n = (under_name f n y h).0 in
    let enough : length (take n ts) ≡ n =
    sym (length-mapped s (take n ts)) ∙ ap length (map-take s n ts) ∙ ap (λ r. length (take n r)) (sym k.read) ∙ few in
    record {
      whole = ap (λ r. r ++ flat_map spell (drop n ts)) (spell-compound f (take n ts))
          ∙ ap (λ m. Fun f m ∷ flat_map spell (take n ts) ++ flat_map spell (drop n ts)) enough
          ∙ ap (λ r. Fun f n ∷ r) (sym (flat_map-append spell (take n ts) (drop n ts)) ∙ ap (flat_map spell) (take-append-drop n ts) ∙ k.whole);
      read = ap (λ r. compound f (terms_of (take n r)) ∷ drop n r) k.read
          ∙ ap (λ r. compound f (terms_of r) ∷ drop n (map (apply s) ts)) (sym (map-take s n ts))
          ∙ ap (λ r. compound f r ∷ drop n (map (apply s) ts)) (sym (apply_all-terms_of s (take n ts)))
          ∙ ap (λ r. compound f (apply_all s (terms_of (take n ts))) ∷ r) (sym (map-drop s n ts));
    }

only : (s : ℕ → Term) (ts : List Term) (u : Term) → map (apply s) ts ≡ u ∷ [] → ts ≡ first_of ts ∷ []
only s [] u e = cc
only s (t ∷ []) u e = refl
only s (t ∷ r ∷ ts) u e = cc

-- symbols with an image that spells one term spell one term
pub record IsSpelled (s : ℕ → Term) (ys : List Sym) (t : Term) : Type 0 where
  pub whole : spell (term_of ys) ≡ ys
  pub same : apply s (term_of ys) ≡ t

pub is_spelled : (s : ℕ → Term) (ys : List Sym) (t : Term) → flat_map (image s) ys ≡ spell t → IsSpelled s ys t
is_spelled s ys t e =
    let h = are_terms s ys (subst IsTerms (sym e) (ap (flat_map spell) one_read ∙ append-nil (spell t))) in
    let k = only s (read_all ys) t (sym h.read ∙ ap read_all e ∙ one_read) in
    let whole : spell (term_of ys) ≡ ys = sym (append-nil (spell (term_of ys))) ∙ ap (flat_map spell) (sym k) ∙ h.whole in
    record {
      whole = whole;
      same = spell-injective (apply s (term_of ys)) t (spell-apply s (term_of ys) ∙ ap (flat_map (image s)) whole ∙ e);
    }
  where
    one_read : read_all (spell t) ≡ t ∷ []
    one_read = ap read_all (sym (append-nil (spell t))) ∙ read_all-spell t []

-- all symbols of a clause's term were passed
pub put_all : (means : ℕ → Term) (copied : List Stretch) (symbols cells new : List Sym) (n m : ℕ) (old slots : List Slot) (at : ℕ) (t : Term) → AreMeant means symbols copied
    → Putting copied symbols cells new n m old slots (take at symbols) → length symbols ≤ at → symbols ≡ spell t → HasPut means cells new n m old slots t
put_all means copied symbols cells new n m old slots at t a g l is =
    let h : Putting copied symbols cells new n m old slots (spell t) = subst (Putting copied symbols cells new n m old slots) (take_all at symbols l ∙ is) g in
    let u = apply (put_for new slots) t in
    let e : flat_map (image means) h.ys ≡ spell (apply means u) =
    h.same means a ∙ ap (flat_map (image means)) (sym (images_put new m slots (spell t) h.slots h.set) ∙ sym (spell-apply (put_for new slots) t)) ∙ sym (spell-apply means u) in
    let k = is_spelled means h.ys (apply means u) e in
    let w : h.ys ≡ spell (shifted 0 (term_of h.ys)) = sym k.whole ∙ ap spell (sym (shifted_zero (term_of h.ys))) in
    record {
      term = term_of h.ys;
      put = h.put ∙ ap (λ z. cells ++ z) w;
      count = h.count ∙ ap (above n) (ap (flat_map variable_in) w ∙ flat_map-variables (shifted 0 (term_of h.ys)));
      same = k.same;
      slots = h.slots;
      newer = h.newer;
      set = λ v o. h.set v (subst (λ r. IsAmong r v) (sym (flat_map-variables t)) o);
    }

-- what is put as it is means the clause's term
pub put_placed : (means : ℕ → Term) (cells new : List Sym) (n m : ℕ) (old slots : List Slot) (t : Term) → HasPlaced cells new n m old slots t → HasPut means cells new n m old slots t
put_placed means cells new n m old slots t h = record {
  term = apply (put_for new slots) t;
  put = h.put;
  count = h.count;
  same = refl;
  slots = h.slots;
  newer = h.newer;
  set = h.set;
}
