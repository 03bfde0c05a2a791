-- What stands for the variables of a clause, while terms of it are put behind the cells.
use Rattle.std.proofs.Common.{◌≡◌, ◌≢◌, inl, inr, ℕ, zero, suc, ◌+◌, ◌<◌, ◌≤◌, ◌==◌, if◌then◌else◌, List, [], ◌∷◌, ◌++◌, length, get_or, map, take, refl, sym, ◌∙◌, ap, subst, arith, append_assoc}
use Rattle.std.specs.List.{flat_map}
use Rattle.std.proofs.Math.Seq.{get_or-append_seam}
use Rattle.std.proofs.lemmas.Bool.{cases_eq}
use Rattle.std.proofs.lemmas.Bool.Decides.{nat_tests}
use Rattle.std.proofs.lemmas.List.{append-nil, get_or_append_left, length-append, map-append, take_more}
use Rattle.std.proofs.lemmas.List.Concat.{flat_map-append}
use Rattle.apd_term.specs.declared.term.Sym.{Sym}
use Rattle.apd_term.specs.declared.term.Sym.TheVariants.{Var, Int, Fun}
use Rattle.apd_term.specs.Term.{Term, variable, apply, spell, arity_of, IsAmong, Occurs}
use Rattle.apd_term.specs.Spelling.{image, variable_in}
use Rattle.apd_term.specs.Canonical.{shifted}
use Rattle.apd_term.proofs.Among.{IsAmong-left, IsAmong-right, IsAmong-append}
use Rattle.apd_term.proofs.Applying.{apply-same, apply-variable}
use Rattle.apd_term.proofs.Spelling.{spell-apply, flat_map-variables}
use Rattle.apd_cells.specs.Slots.{slot_at, cell_of, IsSet, HasRoom, HasSet, IsSingle, IsOwn, IsSlot, AreSlots, GetsOwn, EachGetsOwn, put_symbol, single_term, put_for, Places, Placing, HasPlaced}
use Rattle.apd_cells.specs.Store.{above}
use Rattle.apd_cells.specs.declared.slots.Slot.{Slot}
use Rattle.apd_cells.specs.declared.slots.Slot.TheVariants.{New, Own, Given}
use Rattle.apd_cells.proofs.Appending.{above-append}
use Rattle.apd_cells.proofs.Loading.{above-ge, above-gt}

new_one : (xs : List Slot) (v : ℕ) → slot_at (xs ++ New ∷ []) v ≡ slot_at xs v
new_one [] zero = refl
new_one [] (suc v) = refl
new_one (x ∷ xs) zero = refl
new_one (x ∷ xs) (suc v) = new_one xs v

pub room_one : (old mid new : List Slot) → HasRoom old mid → new ≡ mid ++ New ∷ [] → HasRoom old new
room_one old mid new h e = λ v. ap (λ s. slot_at s v) e ∙ new_one mid v ∙ h v

-- more cells
pub single_more : (cells more : List Sym) (c : ℕ) → IsSingle cells c → IsSingle (cells ++ more) c
single_more cells more c h = record {
  inside = omega (arith, h.inside, length-append cells more);
  one = ap arity_of (get_or_append_left cells more (Var 0) c h.inside) ∙ h.one;
}

own_more : (cells more : List Sym) (n n' : ℕ) (owner : ℕ → ℕ) (v c : ℕ) → c < length cells → n ≤ n' → IsOwn cells n owner v c → IsOwn (cells ++ more) n' owner v c
own_more cells more n n' owner v c i l h = record {
  number = h.number;
  is = get_or_append_left cells more (Var 0) c i ∙ h.is;
  below = omega (arith, h.below);
  owned = h.owned;
}

slot_more : (cells more : List Sym) (n n' : ℕ) (owner : ℕ → ℕ) (v : ℕ) (x : Slot) → n ≤ n' → IsSlot cells n owner v x → IsSlot (cells ++ more) n' owner v x
slot_more cells more n n' owner v New l h = tt
slot_more cells more n n' owner v (Own c) l h = (single_more cells more c h.0, own_more cells more n n' owner v c h.0.inside l h.1)
slot_more cells more n n' owner v (Given c) l h = single_more cells more c h

pub slots_more : (cells more : List Sym) (n n' : ℕ) (slots : List Slot) → n ≤ n' → AreSlots cells n slots → AreSlots (cells ++ more) n' slots
slots_more cells more n n' slots l h = record {
  owner = h.owner;
  each = λ v. slot_more cells more n n' h.owner v (slot_at slots v) l (h.each v);
}

single_of : (cells : List Sym) (n : ℕ) (owner : ℕ → ℕ) (v : ℕ) (x : Slot) → IsSlot cells n owner v x → IsSet x → IsSingle cells (cell_of x)
single_of cells n owner v New h s = absurd s
single_of cells n owner v (Own c) h s = h.0
single_of cells n owner v (Given c) h s = h

-- a slot that is set is of a cell
pub single_at : (cells : List Sym) (n : ℕ) (slots : List Slot) (v : ℕ) → AreSlots cells n slots → IsSet (slot_at slots v) → IsSingle cells (cell_of (slot_at slots v))
single_at cells n slots v h s = single_of cells n h.owner v (slot_at slots v) (h.each v) s

newer_same : (n : ℕ) (cells : List Sym) (x : Slot) → GetsOwn n cells x x
newer_same n cells New = tt
newer_same n cells (Own c) = refl
newer_same n cells (Given c) = refl

pub newer_self : (n : ℕ) (cells : List Sym) (slots : List Slot) → EachGetsOwn n cells slots slots
newer_self n cells slots = λ v. newer_same n cells (slot_at slots v)

stays : (n : ℕ) (cells : List Sym) (x y : Slot) → GetsOwn n cells x y → IsSet x → y ≡ x
stays n cells New y h s = absurd s
stays n cells (Own c) y h s = h
stays n cells (Given c) y h s = h

newer_then : (cells more : List Sym) (n m k : ℕ) (owner : ℕ → ℕ) (v : ℕ) (a b c : Slot) → n ≤ m → IsSlot cells k owner v b → GetsOwn n cells a b → GetsOwn m (cells ++ more) b c
    → GetsOwn n (cells ++ more) a c
newer_then cells more n m k owner v New New New l s h j = tt
newer_then cells more n m k owner v New New (Own d) l s h j = λ q e. (let r = j q e in omega arith)
newer_then cells more n m k owner v New New (Given d) l s h j = absurd j
newer_then cells more n m k owner v New (Own d) c l s h j =
    subst (GetsOwn n (cells ++ more) New) (sym j) (λ q e. h q (sym (get_or_append_left cells more (Var 0) d s.0.inside) ∙ e))
newer_then cells more n m k owner v New (Given d) c l s h j = absurd h
newer_then cells more n m k owner v (Own d) b c l s h j = stays m (cells ++ more) b c j (subst IsSet (sym h) tt) ∙ h
newer_then cells more n m k owner v (Given d) b c l s h j = stays m (cells ++ more) b c j (subst IsSet (sym h) tt) ∙ h

pub newer_trans : (cells more : List Sym) (n m k : ℕ) (a b c : List Slot) → n ≤ m → AreSlots cells k b → EachGetsOwn n cells a b → EachGetsOwn m (cells ++ more) b c → EachGetsOwn n (cells ++ more) a c
newer_trans cells more n m k a b c l s h j =
    λ v. newer_then cells more n m k s.owner v (slot_at a v) (slot_at b v) (slot_at c v) l (s.each v) (h v) (j v)

var_is : (v w : ℕ) → Var v ≡ Var w → v ≡ w
var_is v w e = cc

-- the owner of one more number
abbrev pub with_owner : (ℕ → ℕ) → ℕ → ℕ → ℕ → ℕ
with_owner owner n v m = if m == n then v else owner m

owner_same : (owner : ℕ → ℕ) (n v m : ℕ) → m ≡ n → with_owner owner n v m ≡ v
owner_same owner n v m h = grind (arith, nat_tests)

owner_other : (owner : ℕ → ℕ) (n v m : ℕ) → m ≢ n → with_owner owner n v m ≡ owner m
owner_other owner n v m h = grind (arith, nat_tests)

slot_owner : (cells : List Sym) (n : ℕ) (owner : ℕ → ℕ) (v w : ℕ) (x : Slot) → IsSlot cells n owner w x → IsSlot cells n (with_owner owner n v) w x
slot_owner cells n owner v w New h = tt
slot_owner cells n owner v w (Own c) h = (
  h.0,
  record {
    number = h.1.number;
    is = h.1.is;
    below = h.1.below;
    owned = owner_other owner n v h.1.number (λ e. (let l = h.1.below in absurd (omega arith))) ∙ h.1.owned;
  },
)
slot_owner cells n owner v w (Given c) h = h

-- a variable for which nothing stood has one of its own
new_slots : (cells : List Sym) (n : ℕ) (slots new : List Slot) (v : ℕ) → AreSlots cells n slots → HasSet slots new v (Own (length cells)) → AreSlots (cells ++ Var n ∷ []) (above n (n ∷ [])) new
new_slots cells n slots new v h k = record {
  owner = with_owner h.owner n v;
  each = λ w. elim (cases_eq v w) [
    | inl e ↦ subst (IsSlot (cells ++ Var n ∷ []) (above n (n ∷ [])) (with_owner h.owner n v) w) (sym (ap (slot_at new) (sym e) ∙ k.here)) (own w e)
    | inr d ↦ subst (IsSlot (cells ++ Var n ∷ []) (above n (n ∷ [])) (with_owner h.owner n v) w) (sym (k.others w d))
        (slot_more cells (Var n ∷ []) n (above n (n ∷ [])) (with_owner h.owner n v) w (slot_at slots w) (above-ge n (n ∷ [])) (slot_owner cells n h.owner v w (slot_at slots w) (h.each w)))
  ];
}
  where
    there : get_or (cells ++ Var n ∷ []) (length cells) (Var 0) ≡ Var n
    there = get_or-append_seam cells (Var n) [] (Var 0)

    own : (w : ℕ) → v ≡ w → IsSlot (cells ++ Var n ∷ []) (above n (n ∷ [])) (with_owner h.owner n v) w (Own (length cells))
    own w e = (
      record { inside = omega (arith, length-append cells (Var n ∷ [])); one = ap arity_of there },
      record { number = n; is = there; below = above-gt n (n ∷ []) n (inl refl); owned = owner_same h.owner n v n refl ∙ e },
    )

newer_set : (n : ℕ) (cells : List Sym) (a b : Slot) (x y : Slot) → a ≡ x → b ≡ y → GetsOwn n cells x y → GetsOwn n cells a b
newer_set n cells a b x y e f h = subst (λ z. GetsOwn n cells z b) (sym e) (subst (GetsOwn n cells x) (sym f) h)

pub place_new : (cells : List Sym) (n : ℕ) (slots new : List Slot) (v : ℕ) → AreSlots cells n slots → slot_at slots v ≡ New → HasSet slots new v (Own (length cells)) → Places cells n slots new (Var v) (Var n)
place_new cells n slots new v h e k = record {
  slots = new_slots cells n slots new v h k;
  newer = λ w. elim (cases_eq v w) [
    | inl q ↦ newer_set n (cells ++ Var n ∷ []) (slot_at slots w) (slot_at new w) New (Own (length cells)) (ap (slot_at slots) (sym q) ∙ e) (ap (slot_at new) (sym q) ∙ k.here)
        (λ m is. (let r : n ≡ m = var_is n m (sym there ∙ is) in omega arith))
    | inr d ↦ newer_set n (cells ++ Var n ∷ []) (slot_at slots w) (slot_at new w) (slot_at slots w) (slot_at slots w) refl (k.others w d) (newer_same n (cells ++ Var n ∷ []) (slot_at slots w))
  ];
  put = sym (ap (λ z. get_or (cells ++ Var n ∷ []) (cell_of z) (Var 0)) k.here ∙ there);
  set = λ w q. subst IsSet (sym (ap (slot_at new) (sym (var_is v w q)) ∙ k.here)) tt;
}
  where
    there : get_or (cells ++ Var n ∷ []) (length cells) (Var 0) ≡ Var n
    there = get_or-append_seam cells (Var n) [] (Var 0)

-- no symbol was put
pub placing_first : (cells cells' : List Sym) (n : ℕ) (slots : List Slot) → AreSlots cells n slots → cells' ≡ cells → Placing cells cells' n n slots slots []
placing_first cells cells' n slots h e = rw e (record {
  put = sym (append-nil cells);
  count = refl;
  slots = h;
  newer = newer_self n cells slots;
  set = λ v m. absurd m;
})

-- more cells behind the others, and more slots that are set, change nothing of what was put
same_put : (cells more : List Sym) (old new : List Slot) (k m : ℕ) (x : Sym) → AreSlots cells k old → EachGetsOwn m (cells ++ more) old new
    → ((v : ℕ) → IsAmong (variable_in x) v → IsSet (slot_at old v)) → put_symbol (cells ++ more) new x ≡ put_symbol cells old x
same_put cells more old new k m (Var v) h l s =
    let set = s v (inl refl) in
    ap (λ z. get_or (cells ++ more) (cell_of z) (Var 0)) (stays m (cells ++ more) (slot_at old v) (slot_at new v) (l v) set)
    ∙ get_or_append_left cells more (Var 0) (cell_of (slot_at old v)) (single_at cells k old v h set).inside
same_put cells more old new k m (Int i) h l s = refl
same_put cells more old new k m (Fun f j) h l s = refl

pub same_puts : (cells more : List Sym) (old new : List Slot) (k m : ℕ) (xs : List Sym) → AreSlots cells k old → EachGetsOwn m (cells ++ more) old new
    → ((v : ℕ) → IsAmong (flat_map variable_in xs) v → IsSet (slot_at old v)) → map (put_symbol (cells ++ more) new) xs ≡ map (put_symbol cells old) xs
same_puts cells more old new k m [] h l s = refl
same_puts cells more old new k m (x ∷ xs) h l s =
    ap (λ z. z ∷ map (put_symbol (cells ++ more) new) xs)
    (same_put cells more old new k m x h l (λ v i. s v (IsAmong-left (variable_in x) (flat_map variable_in xs) v i)))
    ∙ ap (λ zs. put_symbol cells old x ∷ zs) (same_puts cells more old new k m xs h l (λ v i. s v (IsAmong-right (variable_in x) (flat_map variable_in xs) v i)))

variable_of_one : (x : Sym) (v : ℕ) → IsAmong (variable_in x) v → x ≡ Var v
variable_of_one (Var w) v (inl e) = ap Var e
variable_of_one (Var w) v (inr b) = absurd b
variable_of_one (Int i) v m = absurd m
variable_of_one (Fun f n) v m = absurd m

pub set_stays : (n : ℕ) (cells : List Sym) (old new : List Slot) (v : ℕ) → EachGetsOwn n cells old new → IsSet (slot_at old v) → IsSet (slot_at new v)
set_stays n cells old new v l s = subst IsSet (sym (stays n cells (slot_at old v) (slot_at new v) (l v) s)) s

-- more symbols, behind which the cells end with these
more_put : (cells mid ys : List Sym) (n m k : ℕ) (old ms new : List Slot) (xs zs : List Sym) → Placing cells mid n m old ms xs → Placing mid (mid ++ ys) m k ms new zs → ys ≡ map (put_symbol (mid ++ ys) new) zs
    → Placing cells (mid ++ ys) n k old new (xs ++ zs)
more_put cells mid ys n m k old ms new xs zs h p e =
    let l : n ≤ m = omega (arith, h.count, above-ge n (flat_map variable_in (map (put_symbol mid ms) xs))) in
    let f = put_symbol (mid ++ ys) new in
    let before = map (put_symbol mid ms) xs in
    let puts : map f (xs ++ zs) ≡ before ++ ys = map-append f xs zs ∙ ap (λ z. z ++ map f zs) (same_puts mid ys ms new m m xs h.slots p.newer h.set) ∙ ap (λ z. before ++ z) (sym e) in
    record {
      put = ap (λ z. z ++ ys) h.put ∙ append_assoc cells before ys ∙ ap (λ z. cells ++ z) (sym puts);
      count = p.count
          ∙ ap (λ z. above m (flat_map variable_in z)) (sym e)
          ∙ ap (λ j. above j (flat_map variable_in ys)) h.count
          ∙ sym (above-append n (flat_map variable_in before) (flat_map variable_in ys))
          ∙ ap (above n) (sym (flat_map-append variable_in before ys) ∙ ap (flat_map variable_in) (sym puts));
      slots = p.slots;
      newer = newer_trans mid ys n m m old ms new l h.slots h.newer p.newer;
      set = λ v i. elim (IsAmong-append (flat_map variable_in xs) (flat_map variable_in zs) v (subst (λ r. IsAmong r v) (flat_map-append variable_in xs zs) i)) [
        | inl a ↦ set_stays m (mid ++ ys) ms new v p.newer (h.set v a)
        | inr b ↦ p.set v b
      ];
    }

pub placing_then : (cells mid new : List Sym) (n m k : ℕ) (old ms slots : List Slot) (xs zs : List Sym) → Placing cells mid n m old ms xs → Placing mid new m k ms slots zs → Placing cells new n k old slots (xs ++ zs)
placing_then cells mid new n m k old ms slots xs zs h p =
    let ys = map (put_symbol new slots) zs in
    subst (λ z. Placing cells z n k old slots (xs ++ zs)) (sym p.put)
    (more_put cells mid ys n m k old ms slots xs zs h (subst (λ z. Placing mid z m k ms slots zs) p.put p) (ap (λ z. map (put_symbol z slots) zs) p.put))

-- one symbol
placing_one : (mid : List Sym) (m : ℕ) (ms new : List Slot) (x y : Sym) → Places mid m ms new x y → Placing mid (mid ++ y ∷ []) m (above m (variable_in y)) ms new (x ∷ [])
placing_one mid m ms new x y p = record {
  put = ap (λ z. mid ++ z ∷ []) p.put;
  count = ap (above m) (sym (append-nil (variable_in y)) ∙ ap (λ z. variable_in z ++ []) p.put);
  slots = p.slots;
  newer = p.newer;
  set = λ v i. p.set v (variable_of_one x v (subst (λ r. IsAmong r v) (append-nil (variable_in x)) i));
}

pub placing_more : (cells mid new : List Sym) (n m k : ℕ) (old ms slots : List Slot) (symbols : List Sym) (i : ℕ) (x y : Sym)
    → Placing cells mid n m old ms (take i symbols) → i < length symbols → get_or symbols i (Var 0) ≡ x → Places mid m ms slots x y
    → k ≡ above m (variable_in y) → new ≡ mid ++ y ∷ [] → Placing cells new n k old slots (take (i + 1) symbols)
placing_more cells mid new n m k old ms slots symbols i x y h l e p c q =
    let t : take (i + 1) symbols ≡ take i symbols ++ x ∷ [] = take_more symbols i (Var 0) l ∙ ap (λ z. take i symbols ++ z ∷ []) e in
    rw (q, c, t) (placing_then cells mid (mid ++ y ∷ []) n m (above m (variable_in y)) old ms slots (take i symbols) (x ∷ []) h (placing_one mid m ms slots x y p))

spell_single : (x : Sym) → arity_of x ≡ 0 → spell (single_term x) ≡ x ∷ []
spell_single (Var v) e = refl
spell_single (Int i) e = refl
spell_single (Fun f n) e = ap (λ k. Fun f k ∷ []) (sym e)

image_put : (cells : List Sym) (n : ℕ) (slots : List Slot) (x : Sym) → AreSlots cells n slots → ((v : ℕ) → IsAmong (variable_in x) v → IsSet (slot_at slots v))
    → image (put_for cells slots) x ≡ put_symbol cells slots x ∷ []
image_put cells n slots (Var v) h s = spell_single (get_or cells (cell_of (slot_at slots v)) (Var 0)) (single_at cells n slots v h (s v (inl refl))).one
image_put cells n slots (Int i) h s = refl
image_put cells n slots (Fun f k) h s = refl

pub images_put : (cells : List Sym) (n : ℕ) (slots : List Slot) (xs : List Sym) → AreSlots cells n slots → ((v : ℕ) → IsAmong (flat_map variable_in xs) v → IsSet (slot_at slots v))
    → flat_map (image (put_for cells slots)) xs ≡ map (put_symbol cells slots) xs
images_put cells n slots [] h s = refl
images_put cells n slots (x ∷ xs) h s =
    ap (λ z. z ++ flat_map (image (put_for cells slots)) xs) (image_put cells n slots x h (λ v i. s v (IsAmong-left (variable_in x) (flat_map variable_in xs) v i)))
    ∙ ap (λ zs. put_symbol cells slots x ∷ zs) (images_put cells n slots xs h (λ v i. s v (IsAmong-right (variable_in x) (flat_map variable_in xs) v i)))

pub shifted_zero : (t : Term) → shifted 0 t ≡ t
shifted_zero t = apply-same (λ v. variable (0 + v)) variable (λ v. ap variable (omega arith)) t ∙ apply-variable t

pub placed_all : (cells new : List Sym) (n m : ℕ) (old slots : List Slot) (symbols : List Sym) (t : Term) → Placing cells new n m old slots symbols → symbols ≡ spell t → HasPlaced cells new n m old slots t
placed_all cells new n m old slots symbols t g is =
    let h : Placing cells new n m old slots (spell t) = subst (Placing cells new n m old slots) is g in
    let set : (v : ℕ) → Occurs v t → IsSet (slot_at slots v) = λ v o. h.set v (subst (λ r. IsAmong r v) (sym (flat_map-variables t)) o) in
    let u = apply (put_for new slots) t in
    let e : map (put_symbol new slots) (spell t) ≡ spell (shifted 0 u) =
    sym (images_put new m slots (spell t) h.slots h.set) ∙ sym (spell-apply (put_for new slots) t) ∙ ap spell (sym (shifted_zero u)) in
    record {
      put = h.put ∙ ap (λ z. cells ++ z) e;
      count = h.count ∙ ap (above n) (ap (flat_map variable_in) e ∙ flat_map-variables (shifted 0 u));
      slots = h.slots;
      newer = h.newer;
      set = set;
    }
