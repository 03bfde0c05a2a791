-- Walks that take over what is kept of numbers, and fresh edges that are followed.
use Rattle.std.proofs.Common.{◌≡◌, ◌⊎◌, inl, inr, ℕ, zero, suc, ◌+◌, ◌*◌, ◌<◌, ◌≤◌, if◌then◌else◌, Bool, true, false, List, [], ◌∷◌, ◌++◌, length, take, drop, get_or, refl, sym, ◌∙◌, ap, subst, arith}
use Rattle.std.proofs.lemmas.Bool.{cases_eq}
use Rattle.std.proofs.lemmas.List.{take_more, drop_more, drop_all, length_push}
use Rattle.apd_term.specs.Term.{IsAmong}
use Rattle.apd_term.proofs.Among.{IsAmong-append, IsAmong-left, IsAmong-right}
use Rattle.apd_bits.specs.Rows.{HasBit, HasNoBits, IsWithin, IsWithinBut, IsWithinEither, has_bit}
use Rattle.apd_findings.specs.Reaching.{AreEdges, AreWithin, HasReached, HasSeen, HasWaiting, HasWalked, IsEdgeAmong, IsRowOf, Reaches, here, on, lacking}
use Rattle.apd_findings.specs.declared.reaching.Edge.{Edge}

-- How many are lacking.

tail : (b c : Bool) → (b ≡ true → c ≡ true) → (if c then 0 else 1) ≤ (if b then 0 else 1)
tail true true f = omega arith
tail true false f = absurd (let t : false ≡ true = f refl in cc)
tail false true f = omega arith
tail false false f = omega arith

one-less : (b c : Bool) → b ≡ false → c ≡ true → (if c then 0 else 1) + 1 ≤ (if b then 0 else 1)
one-less true c e f = absurd (cc)
one-less false true e f = omega arith
one-less false false e f = absurd (cc)

lacking-within : (row new : List ℕ) → IsWithin row new → (count : ℕ) → lacking new count ≤ lacking row count
lacking-within row new w zero = omega arith
lacking-within row new w (suc n) = let h = lacking-within row new w n in let t = tail (has_bit row n) (has_bit new n) (w n) in omega (arith, h, t)

lacking-one : (row new : List ℕ) (k : ℕ) → IsWithin row new → has_bit row k ≡ false → HasBit new k → (count : ℕ) → k < count → lacking new count + 1 ≤ lacking row count
lacking-one row new k w e s zero l = absurd (omega (arith, l))
lacking-one row new k w e s (suc n) l = elim (cases_eq k n) [
  | inl is ↦
      let h = lacking-within row new w n in
      let t = one-less (has_bit row n) (has_bit new n) (subst (λ j. has_bit row j ≡ false) is e) (subst (HasBit new) is s) in
      omega (arith, h, t)
  | inr other ↦
      let before : k < n = omega (arith, l, other) in
      let h = lacking-one row new k w e s n before in
      let t = tail (has_bit row n) (has_bit new n) (w n) in
      omega (arith, h, t)
]

last-is : (xs : List ℕ) (x n : ℕ) → IsAmong (xs ++ x ∷ []) n → IsAmong xs n ⊎ (x ≡ n)
last-is xs x n h = elim (IsAmong-append xs (x ∷ []) n h) [ inl a ↦ inl a | inr b ↦ elim b [ inl e ↦ inr e | inr z ↦ absurd z ] ]

-- A number that is met.

module _ (next : ℕ) (seen waiting : List ℕ) where
  pub waits-before : HasWaiting (next ∷ []) seen waiting seen waiting
  waits-before = record { waits = λ n a. inl a; fewer = λ count w. omega arith }

  pub waits-kept : (new : List ℕ) → IsWithin seen new → HasWaiting (next ∷ []) seen waiting new waiting
  waits-kept new kept = record { waits = λ n a. inl a; fewer = λ count w. let h = lacking-within seen new kept count in omega (arith, h) }

  pub waits-new : (new waiting_new : List ℕ) → has_bit seen next ≡ false → IsWithin seen new → HasBit new next → waiting_new ≡ waiting ++ next ∷ [] → HasWaiting (next ∷ []) seen waiting new waiting_new
  waits-new new waiting_new unset kept set e = record {
    waits = λ n a. elim (last-is waiting next n (subst (λ ws. IsAmong ws n) e a)) [ inl b ↦ inl b | inr k ↦ inr (inl k) ];
    fewer = λ count w.
        let h = lacking-one seen new next kept unset set count (w next (inl refl)) in
        let l : length waiting_new ≡ length waiting + 1 = ap length e ∙ length_push waiting next in
        omega (arith, h, l);
  }

  module _ (lists : List (List ℕ)) (fresh : List Edge) where
    pub seen-before : HasBit seen next → HasSeen lists fresh (next ∷ []) seen waiting seen waiting
    seen-before b = record {
      kept = λ n h. h;
      marked = λ n a. elim a [ inl e ↦ subst (HasBit seen) e b | inr z ↦ absurd z ];
      right = λ n h. inl h;
      closed = λ a b h i. inl h;
      still = λ n a. a;
    }

    pub seen-kept : (row new : List ℕ) → IsRowOf lists fresh next row → IsWithin seen new → IsWithin row new → IsWithinEither new seen row → HasSeen lists fresh (next ∷ []) seen waiting new waiting
    seen-kept row new r kept joined only = record {
      kept = kept;
      marked = λ n a. elim a [ inl e ↦ subst (HasBit new) e (joined next r.start) | inr z ↦ absurd z ];
      right = λ n h. elim (only n h) [ inl b ↦ inl b | inr b ↦ inr (next, inl refl, r.right n b) ];
      closed = λ a b h i. elim (only a h) [
        | inl o ↦ inl o
        | inr o ↦ inr (inr (elim (r.closed a b o i) [ inl s ↦ inl (joined b s) | inr e ↦ inr e ]))
      ];
      still = λ n a. a;
    }

    pub seen-new : (new waiting_new : List ℕ) → IsWithin seen new → IsWithinBut new seen next → HasBit new next → waiting_new ≡ waiting ++ next ∷ [] → HasSeen lists fresh (next ∷ []) seen waiting new waiting_new
    seen-new new waiting_new kept only set e = record {
      kept = kept;
      marked = λ n a. elim a [ inl k ↦ subst (HasBit new) k set | inr z ↦ absurd z ];
      right = λ n h. elim (only n h) [ inl b ↦ inl b | inr k ↦ inr (next, inl refl, subst (Reaches lists next) (sym k) here) ];
      closed = λ a b h i. elim (only a h) [
        | inl o ↦ inl o
        | inr k ↦ inr (inl (subst (λ ws. IsAmong ws a) (sym e) (IsAmong-right waiting (next ∷ []) a (inl (sym k)))))
      ];
      still = λ n a. subst (λ ws. IsAmong ws n) (sym e) (IsAmong-left waiting (next ∷ []) n a);
    }

-- Numbers that are met one after the other.

module _ (s0 w0 : List ℕ) where
  pub waits-none : HasWaiting [] s0 w0 s0 w0
  waits-none = record { waits = λ n a. inl a; fewer = λ count w. omega arith }

  pub seen-none : (lists : List (List ℕ)) (fresh : List Edge) → HasSeen lists fresh [] s0 w0 s0 w0
  seen-none lists fresh = record {
    kept = λ n h. h;
    marked = λ n a. absurd a;
    right = λ n h. inl h;
    closed = λ a b h i. inl h;
    still = λ n a. a;
  }

-- one more
module _ (nexts : List ℕ) (i x : ℕ) (l : i < length nexts) (is : x ≡ get_or nexts i 0) (s0 w0 s w s' w' : List ℕ) where
  one-more : take i nexts ++ x ∷ [] ≡ take (i + 1) nexts
  one-more = ap (λ y. take i nexts ++ y ∷ []) is ∙ sym (take_more nexts i 0 l)

  pub waits-more : HasWaiting (take i nexts) s0 w0 s w → HasWaiting (x ∷ []) s w s' w' → HasWaiting (take (i + 1) nexts) s0 w0 s' w'
  waits-more f g = subst (λ ns. HasWaiting ns s0 w0 s' w') one-more (record {
    waits = λ n a. elim (g.waits n a) [
      | inl b ↦ elim (f.waits n b) [ inl c ↦ inl c | inr c ↦ inr (IsAmong-left (take i nexts) (x ∷ []) n c) ]
      | inr b ↦ inr (IsAmong-right (take i nexts) (x ∷ []) n b)
    ];
    fewer = λ count within.
        let p = f.fewer count (λ n a. within n (IsAmong-left (take i nexts) (x ∷ []) n a)) in
        let q = g.fewer count (λ n a. within n (IsAmong-right (take i nexts) (x ∷ []) n a)) in
        omega (arith, p, q);
  })

  pub seen-more : (lists : List (List ℕ)) (fresh : List Edge) → HasSeen lists fresh (take i nexts) s0 w0 s w → HasSeen lists fresh (x ∷ []) s w s' w' → HasSeen lists fresh (take (i + 1) nexts) s0 w0 s' w'
  seen-more lists fresh f g = subst (λ ns. HasSeen lists fresh ns s0 w0 s' w') one-more (record {
    kept = λ n h. g.kept n (f.kept n h);
    marked = λ n a. elim (IsAmong-append (take i nexts) (x ∷ []) n a) [ inl b ↦ g.kept n (f.marked n b) | inr b ↦ g.marked n b ];
    right = λ n h. elim (g.right n h) [
      | inl b ↦ elim (f.right n b) [ inl c ↦ inl c | inr c ↦ inr (c.0, IsAmong-left (take i nexts) (x ∷ []) c.0 c.1, c.2) ]
      | inr c ↦ inr (c.0, IsAmong-right (take i nexts) (x ∷ []) c.0 c.1, c.2)
    ];
    closed = λ a b h j. elim (g.closed a b h j) [
      | inl o ↦ elim (f.closed a b o j) [
        | inl p ↦ inl p
        | inr p ↦ inr (elim p [ inl q ↦ inl (g.still a q) | inr q ↦ inr (elim q [ inl r ↦ inl (g.kept b r) | inr r ↦ inr r ]) ])
      ]
      | inr p ↦ inr p
    ];
    still = λ n a. g.still n (f.still n a);
  })

-- A walk.

pub record IsWalking (lists : List (List ℕ)) (fresh : List Edge) (first : ℕ) (row seen waiting : List ℕ) : Type 0 where
  pub kept : IsWithin row seen
  pub start : HasBit seen first
  pub right : (n : ℕ) → HasBit seen n → HasBit row n ⊎ Reaches lists first n
  pub reached : (n : ℕ) → IsAmong waiting n → Reaches lists first n
  pub closed : (a b : ℕ) → HasBit seen a → IsAmong (get_or lists a []) b → HasBit row a ⊎ (IsAmong waiting a ⊎ (HasBit seen b ⊎ IsEdgeAmong fresh a b))

onward : (lists : List (List ℕ)) (a b c : ℕ) → Reaches lists a b → Reaches lists b c → Reaches lists a c
onward lists a b c r here = r
onward lists a b c r (on x y s i) = on x y (onward lists a b x r s) i

only-first : (first n : ℕ) → IsAmong (first ∷ []) n → first ≡ n
only-first first n (inl e) = e
only-first first n (inr z) = absurd z

first-waits : (first n : ℕ) (row seen waiting : List ℕ) → HasWaiting (first ∷ []) row [] seen waiting → IsAmong waiting n → first ≡ n
first-waits first n row seen waiting h a = elim (h.waits n a) [ inl z ↦ absurd z | inr b ↦ only-first first n b ]

module _ (lists : List (List ℕ)) (first : ℕ) (row : List ℕ) where
  pub first-within : (seen waiting : List ℕ) → HasWaiting (first ∷ []) row [] seen waiting → first < length lists → (n : ℕ) → IsAmong waiting n → n < length lists
  first-within seen waiting h l n a = subst (λ k. k < length lists) (first-waits first n row seen waiting h a) l

  pub walking-first : (fresh : List Edge) (seen waiting : List ℕ) → HasWaiting (first ∷ []) row [] seen waiting → HasSeen lists fresh (first ∷ []) row [] seen waiting → IsWalking lists fresh first row seen waiting
  walking-first fresh seen waiting w s = record {
    kept = s.kept;
    start = s.marked first (inl refl);
    right = λ n h. elim (s.right n h) [ inl b ↦ inl b | inr c ↦ inr (subst (λ k. Reaches lists k n) (sym (only-first first c.0 c.1)) c.2) ];
    reached = λ n a. subst (Reaches lists first) (first-waits first n row seen waiting w a) here;
    closed = s.closed;
  }

  pub walked : (fresh : List Edge) (seen waiting : List ℕ) → waiting ≡ [] → IsWalking lists fresh first row seen waiting → HasWalked lists fresh first row seen
  walked fresh seen waiting e h = record {
    kept = h.kept;
    start = h.start;
    right = h.right;
    closed = λ a b s i. elim (h.closed a b s i) [ inl o ↦ inl o | inr p ↦ elim p [ inl q ↦ absurd (subst (λ ws. IsAmong ws a) e q) | inr q ↦ inr q ] ];
  }

module _ (lists : List (List ℕ)) (first : ℕ) (row seen waiting rest : List ℕ) (number : ℕ) (is : waiting ≡ rest ++ number ∷ []) where
  number-waits : IsAmong waiting number
  number-waits = subst (λ ws. IsAmong ws number) (sym is) (IsAmong-right rest (number ∷ []) number (inl refl))

  rest-waits : (n : ℕ) → IsAmong rest n → IsAmong waiting n
  rest-waits n a = subst (λ ws. IsAmong ws n) (sym is) (IsAmong-left rest (number ∷ []) n a)

  module _ (within : (n : ℕ) → IsAmong waiting n → n < length lists) where
    pub number-within : number < length lists
    number-within = within number number-waits

    pub within-more : AreWithin lists → (seen_new waiting_new : List ℕ) → HasWaiting (get_or lists number []) seen rest seen_new waiting_new → (n : ℕ) → IsAmong waiting_new n → n < length lists
    within-more all seen_new waiting_new h n a = elim (h.waits n a) [ inl b ↦ within n (rest-waits n b) | inr b ↦ all number n b ]

    pub walk-smaller : AreWithin lists → (seen_new waiting_new : List ℕ) → HasWaiting (get_or lists number []) seen rest seen_new waiting_new
        → 2 * lacking seen_new (length lists) + length waiting_new < 2 * lacking seen (length lists) + length waiting
    walk-smaller all seen_new waiting_new h =
        let f = h.fewer (length lists) (λ n a. all number n a) in
        let l : length waiting ≡ length rest + 1 = ap length is ∙ length_push rest number in
        omega (arith, f, l)

  pub walking-more : (fresh : List Edge) (seen_new waiting_new : List ℕ) → HasWaiting (get_or lists number []) seen rest seen_new waiting_new → HasSeen lists fresh (get_or lists number []) seen rest seen_new waiting_new
      → IsWalking lists fresh first row seen waiting → IsWalking lists fresh first row seen_new waiting_new
  walking-more fresh seen_new waiting_new w s h = record {
    kept = λ n b. s.kept n (h.kept n b);
    start = s.kept first h.start;
    right = λ n b. elim (s.right n b) [
      | inl c ↦ h.right n c
      | inr c ↦ inr (onward lists first c.0 n (on number c.0 (h.reached number number-waits) c.1) c.2)
    ];
    reached = λ n a. elim (w.waits n a) [ inl b ↦ h.reached n (rest-waits n b) | inr b ↦ on number n (h.reached number number-waits) b ];
    closed = λ a b t i. elim (s.closed a b t i) [
      | inl o ↦ elim (h.closed a b o i) [
        | inl p ↦ inl p
        | inr p ↦ inr (elim p [
          | inl q ↦ elim (last-is rest number a (subst (λ ws. IsAmong ws a) is q)) [
            | inl r ↦ inl (s.still a r)
            | inr e ↦ inr (inl (s.marked b (subst (λ k. IsAmong (get_or lists k []) b) (sym e) i)))
          ]
          | inr q ↦ inr (elim q [ inl r ↦ inl (s.kept b r) | inr r ↦ inr r ])
        ])
      ]
      | inr p ↦ inr p
    ];
  }

-- Rows.

pub row-walked : (lists : List (List ℕ)) (fresh : List Edge) (first : ℕ) (none row : List ℕ) → HasNoBits none → HasWalked lists fresh first none row → IsRowOf lists fresh first row
row-walked lists fresh first none row bare h = record {
  start = h.start;
  right = λ n b. elim (h.right n b) [ inl z ↦ absurd (bare n z) | inr r ↦ r ];
  closed = λ a b s i. elim (h.closed a b s i) [ inl z ↦ absurd (bare a z) | inr p ↦ p ];
}

pub row-exact : (lists : List (List ℕ)) (first : ℕ) (row : List ℕ) → IsRowOf lists [] first row → HasReached lists first row
row-exact lists first row h n = (h.right n, all n)
  where
    all : (n : ℕ) → Reaches lists first n → HasBit row n
    all n here = h.start
    all n (on a b r i) = elim (h.closed a b (all a r) i) [ inl s ↦ s | inr z ↦ absurd z ]

-- Fresh edges that are followed.

abbrev no-edge : Edge
no-edge = record { from = 0; to = 0 }

edge-at : (edges : List Edge) (i : ℕ) (e : Edge) → i < length edges → e ≡ get_or edges i no-edge → IsEdgeAmong edges e.from e.to
edge-at [] i e l is = absurd (omega (arith, l))
edge-at (x ∷ edges) zero e l is = inl (ap (λ (y : Edge). y.from) (sym is), ap (λ (y : Edge). y.to) (sym is))
edge-at (x ∷ edges) (suc i) e l is = inr (edge-at edges i e (omega (arith, l)) is)

module _ (lists : List (List ℕ)) (fresh : List Edge) (edges : AreEdges lists fresh) (i : ℕ) (e : Edge) (l : i < length fresh) (is : e ≡ get_or fresh i no-edge) where
  pub edge-listed : IsAmong (get_or lists e.from []) e.to
  edge-listed = edges e.from e.to (edge-at fresh i e l is)

  cut : drop i fresh ≡ e ∷ drop (i + 1) fresh
  cut = drop_more fresh i no-edge l ∙ ap (λ y. y ∷ drop (i + 1) fresh) (sym is)

  this-or-later : (a b : ℕ) → IsEdgeAmong (drop i fresh) a b → ((e.from ≡ a) × (e.to ≡ b)) ⊎ IsEdgeAmong (drop (i + 1) fresh) a b
  this-or-later a b h = subst (λ es. IsEdgeAmong es a b) cut h

  pub edge-followed : (first : ℕ) (row new : List ℕ) → HasBit row e.from → HasWalked lists [] e.to row new → IsRowOf lists (drop i fresh) first row → IsRowOf lists (drop (i + 1) fresh) first new
  edge-followed first row new has w h = record {
    start = w.kept first h.start;
    right = λ n b. elim (w.right n b) [ inl o ↦ h.right n o | inr r ↦ onward lists first e.to n (on e.from e.to (h.right e.from has) edge-listed) r ];
    closed = λ a b s j. elim (w.closed a b s j) [
      | inl o ↦ elim (h.closed a b o j) [
        | inl p ↦ inl (w.kept b p)
        | inr g ↦ elim (this-or-later a b g) [ inl same ↦ inl (subst (HasBit new) same.1 w.start) | inr later ↦ inr later ]
      ]
      | inr p ↦ elim p [ inl q ↦ inl q | inr z ↦ absurd z ]
    ];
  }

  pub edge-passed : (first : ℕ) (row : List ℕ) → has_bit row e.from ≡ false → IsRowOf lists (drop i fresh) first row → IsRowOf lists (drop (i + 1) fresh) first row
  edge-passed first row unset h = record {
    start = h.start;
    right = h.right;
    closed = λ a b s j. elim (h.closed a b s j) [
      | inl p ↦ inl p
      | inr g ↦ elim (this-or-later a b g) [
        | inl same ↦ absurd (let t : true ≡ false = sym s ∙ ap (has_bit row) (sym same.0) ∙ unset in cc)
        | inr later ↦ inr later
      ]
    ];
  }

pub edges-done : (lists : List (List ℕ)) (fresh : List Edge) (i first : ℕ) (row : List ℕ) → length fresh ≤ i → IsRowOf lists (drop i fresh) first row → IsRowOf lists [] first row
edges-done lists fresh i first row l h = subst (λ es. IsRowOf lists es first row) (drop_all i fresh l) h
