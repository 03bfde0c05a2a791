-- What changing a link makes of links and of frames.
use Rattle.std.proofs.Common.{◌≡◌, ◌≢◌, inl, inr, ℕ, zero, suc, ◌+◌, ◌-◌, ◌<◌, ◌≤◌, List, [], ◌∷◌, ◌++◌, length, drop, refl, sym, ◌∙◌, ap, subst, arith, Some, None}
use Rattle.std.proofs.lemmas.Bool.{cases_eq}
use Rattle.std.proofs.lemmas.List.{length-append, length-drop}
use Rattle.apd_cells.specs.Stored.{Stored}
use Rattle.apd_trace.specs.Frames.{handed_all}
use Rattle.apd_frames.specs.Links.{Link}
use Rattle.apd_frames.specs.Linked.{numbered, frame_in, frames_at, changed, with_done, handed_link, taken_link, oldest, ArePlaced}
use Rattle.apd_frames.proofs.Linking.{same_number, other_number}

module _ (f : Link → Link) (k : ℕ) where
  pub changed_first : (l : Link) (older : List Link) → k ≡ length older + 1 → changed f k (l ∷ older) ≡ f l ∷ older
  changed_first l older q = same_number k (length older + 1) (f l ∷ older) (l ∷ changed f k older) q

  pub changed_older : (l : Link) (older : List Link) → k ≢ length older + 1 → changed f k (l ∷ older) ≡ l ∷ changed f k older
  changed_older l older d = other_number k (length older + 1) (f l ∷ older) (l ∷ changed f k older) d

  pub length-changed : (links : List Link) → length (changed f k links) ≡ length links
  length-changed [] = refl
  length-changed (l ∷ older) = elim (cases_eq k (length older + 1)) [
    | inl q ↦ ap length (changed_first l older q)
    | inr d ↦ ap length (changed_older l older d) ∙ ap suc (length-changed older)
  ]

  -- there is no link with the number
  pub changed_beyond : (links : List Link) → length links < k → changed f k links ≡ links
  changed_beyond [] h = refl
  changed_beyond (l ∷ older) h = changed_older l older (λ q. omega (arith, h)) ∙ ap (λ ls. l ∷ ls) (changed_beyond older (omega (arith, h)))

  pub changed_none : (links : List Link) → numbered links k ≡ None → changed f k links ≡ links
  changed_none [] e = refl
  changed_none (l ∷ older) e = elim (cases_eq k (length older + 1)) [
    | inl q ↦ (let bad : Some l ≡ None = sym (same_number k (length older + 1) (Some l) (numbered older k) q) ∙ e in cc)
    | inr d ↦ changed_older l older d ∙ ap (λ ls. l ∷ ls) (changed_none older (sym (other_number k (length older + 1) (Some l) (numbered older k) d) ∙ e))
  ]

  -- the older links are changed alike
  drop_changed : (j : ℕ) (links : List Link) → drop j (changed f k links) ≡ changed f k (drop j links)
  drop_changed zero links = refl
  drop_changed (suc j) [] = refl
  drop_changed (suc j) (l ∷ older) = elim (cases_eq k (length older + 1)) [
    | inl q ↦ ap (drop (suc j)) (changed_first l older q) ∙ sym (changed_beyond (drop j older) (omega (arith, q, length-drop j older)))
    | inr d ↦ ap (drop (suc j)) (changed_older l older d) ∙ drop_changed j older
  ]

  pub oldest-changed : (n : ℕ) (links : List Link) → oldest n (changed f k links) ≡ changed f k (oldest n links)
  oldest-changed n links = ap (λ m. drop (m - n) (changed f k links)) (length-changed links) ∙ drop_changed (length links - n) links

  -- behind so many others
  pub changed_at : (xs ys : List Link) (x : Link) → k ≡ length ys + 1 → changed f k (xs ++ x ∷ ys) ≡ xs ++ f x ∷ ys
  changed_at [] ys x q = changed_first x ys q
  changed_at (l ∷ xs) ys x q =
      changed_older l (xs ++ x ∷ ys) (λ e. omega (arith, q, length-append xs (x ∷ ys))) ∙ ap (λ ls. l ∷ ls) (changed_at xs ys x q)

-- two changes of a link that are one
pub changed_as : (f g : Link → Link) (k : ℕ) (l : Link) (links : List Link) → numbered links k ≡ Some l → f l ≡ g l → changed f k links ≡ changed g k links
changed_as f g k l [] e h = refl
changed_as f g k l (x ∷ older) e h = elim (cases_eq k (length older + 1)) [
  | inl q ↦
      let s : Some x ≡ Some l = sym (same_number k (length older + 1) (Some x) (numbered older k) q) ∙ e in
      let is : x ≡ l = cc in
      changed_first f k x older q ∙ ap (λ y. y ∷ older) (ap f is ∙ h ∙ ap g (sym is)) ∙ sym (changed_first g k x older q)
  | inr d ↦
      changed_older f k x older d
      ∙ ap (λ ls. x ∷ ls) (changed_as f g k l older (sym (other_number k (length older + 1) (Some x) (numbered older k) d) ∙ e) h)
      ∙ sym (changed_older g k x older d)
]

-- an exit is handed to the innermost frame
pub handed_frames : (s : Stored) (m k : ℕ) (links : List Link) → frames_at s (changed (handed_link m) k links) k ≡ handed_all (frames_at s links k) m
handed_frames s m k [] = refl
handed_frames s m k (l ∷ older) = elim (cases_eq k (length older + 1)) [
  | inl q ↦
      ap (λ ls. frames_at s ls k) (changed_first (handed_link m) k l older q)
      ∙ same_number k (length older + 1) (frame_in s (handed_link m l) ∷ frames_at s older l.around) (frames_at s older k) q
      ∙ ap (λ F. handed_all F m) (sym (same_number k (length older + 1) (frame_in s l ∷ frames_at s older l.around) (frames_at s older k) q))
  | inr d ↦
      let ls = changed (handed_link m) k older in
      let n : length ls ≡ length older = length-changed (handed_link m) k older in
      ap (λ xs. frames_at s xs k) (changed_older (handed_link m) k l older d)
      ∙ other_number k (length ls + 1) (frame_in s l ∷ frames_at s ls l.around) (frames_at s ls k) (λ q. d (omega (arith, n)))
      ∙ handed_frames s m k older
      ∙ ap (λ F. handed_all F m) (sym (other_number k (length older + 1) (frame_in s l ∷ frames_at s older l.around) (frames_at s older k) d))
]

taken_again : (m p : ℕ) (l : Link) → l.point ≡ p → taken_link p (handed_link m l) ≡ l
taken_again m p l e =
    let d : l.done + 1 - 1 ≡ l.done = omega arith in
    ap (λ n. with_done n p l) d ∙ ap (λ n. with_done l.done n l) (sym e)

-- and is taken back
pub taken_handed : (k m p : ℕ) (l : Link) (links : List Link) → numbered links k ≡ Some l → l.point ≡ p
    → changed (taken_link p) k (changed (handed_link m) k links) ≡ links
taken_handed k m p l [] e h = refl
taken_handed k m p l (x ∷ older) e h = elim (cases_eq k (length older + 1)) [
  | inl q ↦
      let s : Some x ≡ Some l = sym (same_number k (length older + 1) (Some x) (numbered older k) q) ∙ e in
      let is : x ≡ l = cc in
      ap (changed (taken_link p) k) (changed_first (handed_link m) k x older q)
      ∙ changed_first (taken_link p) k (handed_link m x) older q
      ∙ ap (λ y. y ∷ older) (taken_again m p x (ap (λ (y : Link). y.point) is ∙ h))
  | inr d ↦
      let ls = changed (handed_link m) k older in
      let n : length ls ≡ length older = length-changed (handed_link m) k older in
      ap (changed (taken_link p) k) (changed_older (handed_link m) k x older d)
      ∙ changed_older (taken_link p) k x ls (λ q. d (omega (arith, n)))
      ∙ ap (λ ys. x ∷ ys) (taken_handed k m p l older (sym (other_number k (length older + 1) (Some x) (numbered older k) d) ∙ e) h)
]

-- the links stay in their places
pub placed_changed : (n : ℕ) (d : Link → ℕ) (m k : ℕ) (links : List Link) → ArePlaced n links → ArePlaced n (changed (λ l. with_done (d l) m l) k links)
placed_changed n d m k [] h = tt
placed_changed n d m k (l ∷ older) h =
    let f : Link → Link = λ x. with_done (d x) m x in
    elim (cases_eq k (length older + 1)) [
      | inl q ↦ subst (ArePlaced n) (sym (changed_first f k l older q)) h
      | inr e ↦
          subst (ArePlaced n) (sym (changed_older f k l older e))
          (h.0, omega (arith, h.1, length-changed f k older), placed_changed n d m k older h.2)
    ]
