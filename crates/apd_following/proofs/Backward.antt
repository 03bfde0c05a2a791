-- What a journal has where the store went back.
use Rattle.std.proofs.Common.{◌≡◌, inl, inr, ℕ, zero, suc, ◌-◌, ◌<◌, ◌≤◌, List, [], ◌∷◌, ◌++◌, length, take, drop, refl, sym, ◌∙◌, ap, subst, arith, Bool, true, false, Result, Ok, Err}
use Rattle.std.specs.Prelude.{OnOk}
use Rattle.std.specs.Result.{is_ok}
use Rattle.std.specs.Bool.{OnTrue}
use Rattle.std.proofs.lemmas.Bool.{cases_eq, OnTrue_at, OnTrue_from}
use Rattle.std.proofs.lemmas.List.{append-nil, drop-drop, length-drop, length-take}
use Rattle.apd_term.specs.declared.term.Sym.{Sym}
use Rattle.apd_cells.specs.declared.front.Front.{Front}
use Rattle.apd_cells.specs.declared.heap.TrailNote.{TrailNote}
use Rattle.apd_cells.specs.declared.heap.TrailNote.TheVariants.{Loaded, Bound}
use Rattle.apd_cells.specs.declared.heap.Binding.TheVariants.{Free, At}
use Rattle.apd_cells.specs.Stored.{Stored}
use Rattle.apd_cells.specs.Store.{at_mark, binding_of, IsStore, IsSound}
use Rattle.apd_cells.specs.Undone.{undone}
use Rattle.apd_cells.proofs.Longer.{sound_at_mark}
use Rattle.apd_cells.proofs.Meaning.{binding-other, binding-same}
use Rattle.apd_cells.proofs.Undoing.{at_mark-here, before_trail}
use Rattle.apd_cells.proofs.Undone.{undone_front, undone_more}
use Rattle.apd_past.specs.Done.{Done}
use Rattle.apd_past.specs.Follows.{Follows, bindings_in}
use Rattle.apd_past.specs.History.{bindings_of, HasDoneMore, IsNewestBound, IsRight, KeepsMoments, history_of}
use Rattle.apd_past.proofs.Keeping.{keeps_grown}
use Rattle.apd_frames.specs.Framed.{GoesBack}
use Rattle.apd_frames.specs.declared.linked.Linked.{Linked}
use Rattle.apd_following.specs.declared.tie.Tie.{Tie}
use Rattle.apd_following.specs.Tied.{front_of, past_of, AreFree, FollowsTo, IsAhead, IsBack, IsTied}

-- the newest binding of a store
newest_bound : (notes : List TrailNote) (v c : ℕ) (rest : List TrailNote) → bindings_in notes ≡ Bound v c ∷ rest → binding_of notes v ≡ At c
newest_bound [] v c rest e = cc
newest_bound (Loaded b n ∷ notes) v c rest e = newest_bound notes v c rest e
newest_bound (Bound w b ∷ notes) v c rest e =
    let same : w ≡ v = cc in
    let there : b ≡ c = cc in
    binding-same w b notes v same ∙ ap (λ x. At x) there

-- the journal's newest variable is free in the store: its binding is one of the newer ones
ahead_by : (d d' : Done) (s : Stored) (v c : ℕ) (rest newer : List TrailNote) → bindings_of d ≡ Bound v c ∷ rest → bindings_of d ≡ newer ++ bindings_in s.trail → AreFree newer s.trail
    → binding_of s.trail v ≡ Free → bindings_of d' ≡ drop 1 (bindings_of d) → IsAhead d' s
ahead_by d d' s v c rest [] e is f free left = let b = newest_bound s.trail v c rest (sym is ∙ e) in absurd (cc)
ahead_by d d' s v c rest (Loaded k n ∷ newer) e is f free left = record { newer = newer; bindings_are = left ∙ ap (drop 1) is; free = f }
ahead_by d d' s v c rest (Bound w k ∷ newer) e is f free left = record { newer = newer; bindings_are = left ∙ ap (drop 1) is; free = f.1 }

pub ahead_freed : (d d' : Done) (s : Stored) (v : ℕ) → IsAhead d s → IsNewestBound v (bindings_of d) → binding_of s.trail v ≡ Free → bindings_of d' ≡ drop 1 (bindings_of d) → IsAhead d' s
ahead_freed d d' s v a n free e = ahead_by d d' s v n.0 (drop 1 (bindings_of d)) a.newer n.1 a.bindings_are a.free free e

pub fewer_freed : (d d' : Done) (v : ℕ) → IsNewestBound v (bindings_of d) → bindings_of d' ≡ drop 1 (bindings_of d) → length (bindings_of d') < length (bindings_of d)
fewer_freed d d' v n e = omega (arith, ap length e, length-drop 1 (bindings_of d), ap length n.1)

-- it is bound there: there is no newer one
done_by : (d : Done) (s : Stored) (v c : ℕ) (rest newer : List TrailNote) → bindings_of d ≡ Bound v c ∷ rest → bindings_of d ≡ newer ++ bindings_in s.trail → AreFree newer s.trail
    → ¬ (binding_of s.trail v ≡ Free) → Follows d s
done_by d s v c rest [] e is f bound = is
done_by d s v c rest (Loaded k n ∷ newer) e is f bound = absurd (cc)
done_by d s v c rest (Bound w k ∷ newer) e is f bound = (let same : w ≡ v = cc in absurd (bound (subst (λ x. binding_of s.trail x ≡ Free) same f.0)))

pub ahead_done : (d : Done) (s : Stored) (v : ℕ) → IsAhead d s → IsNewestBound v (bindings_of d) → ¬ (binding_of s.trail v ≡ Free) → Follows d s
ahead_done d s v a n bound = done_by d s v n.0 (drop 1 (bindings_of d)) a.newer n.1 a.bindings_are a.free bound

none_by : (d : Done) (s : Stored) (newer : List TrailNote) → bindings_of d ≡ [] → bindings_of d ≡ newer ++ bindings_in s.trail → Follows d s
none_by d s [] e is = is
none_by d s (x ∷ newer) e is = cc

pub ahead_none : (d : Done) (s : Stored) → IsAhead d s → bindings_of d ≡ [] → Follows d s
ahead_none d s a e = none_by d s a.newer e a.bindings_are

-- what was free stays free before
free_drop : (notes : List TrailNote) (v j : ℕ) → binding_of notes v ≡ Free → binding_of (drop j notes) v ≡ Free
free_drop notes v zero h = h
free_drop [] v (suc j) h = h
free_drop (Loaded c n ∷ notes) v (suc j) h = free_drop notes v j h
free_drop (Bound w c ∷ notes) v (suc j) h = elim (cases_eq w v) [
  | inl e ↦ (let b = binding-same w c notes v e in absurd (cc))
  | inr o ↦ free_drop notes v j (sym (binding-other w c notes v o) ∙ h)
]

-- the bindings that were taken back
record IsBehind (notes : List TrailNote) (j : ℕ) : Type 0 where
  newer : List TrailNote
  is : bindings_in notes ≡ newer ++ bindings_in (drop j notes)
  free : AreFree newer (drop j notes)

behind : (cells : List Sym) (n : ℕ) (notes : List TrailNote) (j : ℕ) → IsStore cells n notes → IsBehind notes j
behind cells n notes zero h = record { newer = []; is = refl; free = tt }
behind cells n [] (suc j) h = record { newer = []; is = refl; free = tt }
behind cells n (Loaded c m ∷ notes) (suc j) h =
    let r = behind (take c cells) m notes j h.1.1.1 in
    record { newer = r.newer; is = r.is; free = r.free }
behind cells n (Bound v c ∷ notes) (suc j) h =
    let r = behind cells n notes j h.1 in
    record { newer = Bound v c ∷ r.newer; is = ap (λ z. Bound v c ∷ z) r.is; free = (free_drop notes v j h.0.free, r.free) }

trail_at : (k : ℕ) (s : Stored) → (at_mark k s).trail ≡ drop (length s.trail - k) s.trail
trail_at k s = before_trail s.cells s.variables s.trail (length s.trail - k)

-- the store went back
module _ (t : Tie) (now : Stored) (b : IsBack t now) where
  front_back : take t.cells now.cells ≡ take t.cells b.before.cells
  front_back = ap (λ (x : Stored). take t.cells x.cells) b.is ∙ undone_front (front_of t) b.mark b.before

  pub past_back : past_of t now ≡ past_of t b.before
  past_back = ap (λ z. history_of z t.journal) front_back

  within_back : t.cells ≤ length now.cells
  within_back = omega (arith, ap length front_back, length-take t.cells now.cells, length-take t.cells b.before.cells, b.tied.within)

  right_back : IsRight (take t.cells now.cells) t.journal.variables t.journal.spans
  right_back = subst (λ z. IsRight z t.journal.variables t.journal.spans) (sym front_back) b.tied.right

  trail_back : now.trail ≡ drop (length b.before.trail - b.mark) b.before.trail
  trail_back = ap (λ (x : Stored). x.trail) b.is ∙ (undone_more (front_of t) b.mark b.before b.sound).trail ∙ trail_at b.mark b.before

  count_back : length now.trail ≡ b.mark
  count_back = omega (arith, ap length trail_back, length-drop (length b.before.trail - b.mark) b.before.trail, b.there)

  -- nothing was taken back of what the journal followed
  pub tied_still : t.followed ≤ length now.trail → IsTied t now
  tied_still l = record {
    within = within_back;
    right = right_back;
    follows = OnTrue_from t.holds (FollowsTo t.followed t.journal now)
        (λ e. (let f = OnTrue_at e b.tied.follows in
        let k = t.followed in
        let n = length b.before.trail in
        let same : (at_mark k b.before).trail ≡ (at_mark k now).trail =
        trail_at k b.before
        ∙ ap (λ j. drop j b.before.trail) (omega (arith, l, count_back, b.there))
        ∙ sym (drop-drop (b.mark - k) (n - b.mark) b.before.trail)
        ∙ ap (λ z. drop (b.mark - k) z) (sym trail_back)
        ∙ ap (λ j. drop (j - k) now.trail) (sym count_back)
        ∙ sym (trail_at k now) in
        record { there = l; follows = f.follows ∙ ap bindings_in same }));
  }

  -- some was
  pub ahead : t.holds ≡ true → length now.trail < t.followed → IsAhead t.journal now
  ahead e l =
      let f = OnTrue_at e b.tied.follows in
      let k = t.followed in
      let r = at_mark k b.before in
      let n = length b.before.trail in
      let j = k - b.mark in
      let sound : IsSound r = sound_at_mark k b.before b.sound in
      let same : drop j r.trail ≡ now.trail =
      ap (drop j) (trail_at k b.before)
      ∙ drop-drop j (n - k) b.before.trail
      ∙ ap (λ i. drop i b.before.trail) (omega (arith, l, count_back, b.there, f.there))
      ∙ sym trail_back in
      let h = behind r.cells r.variables r.trail j sound in
      record {
        newer = h.newer;
        bindings_are = f.follows ∙ h.is ∙ ap (λ z. h.newer ++ bindings_in z) same;
        free = subst (AreFree h.newer) same h.free;
      }

  -- it follows no store any more
  pub tied_given_up : t.holds ≡ false → IsTied t now
  tied_given_up e = record { within = within_back; right = right_back; follows = subst (λ b. OnTrue b (FollowsTo t.followed t.journal now)) (sym e) tt }

  tied_part : (d : Done) (k : ℕ) → IsRight (take t.cells now.cells) d.variables d.spans → IsTied (record { journal = d; cells = t.cells; followed = k; holds = false }) now
  tied_part d k r = record { within = within_back; right = r; follows = tt }

  tied_freed : (d : Done) (k : ℕ) → IsRight (take t.cells now.cells) d.variables d.spans → Follows d now → k ≡ length now.trail
      → IsTied (record { journal = d; cells = t.cells; followed = k; holds = true }) now
  tied_freed d k r f e = record {
    within = within_back;
    right = r;
    follows = record { there = omega (arith, e); follows = f ∙ ap (λ (x : Stored). bindings_in x.trail) (sym (at_mark-here k now (omega (arith, e)))) };
  }

  pub tied_by : {X E : Type 0} (r : Result X E) (holds : Bool) (d : Done) (k : ℕ) → IsRight (take t.cells now.cells) d.variables d.spans → OnOk r (Follows d now) → k ≡ length now.trail
      → holds ≡ is_ok r → IsTied (record { journal = d; cells = t.cells; followed = k; holds = holds }) now
  tied_by (Ok x) holds d k right f e h = subst (λ b. IsTied (record { journal = d; cells = t.cells; followed = k; holds = b }) now) (sym h) (tied_freed d k right f e)
  tied_by (Err x) holds d k right f e h = subst (λ b. IsTied (record { journal = d; cells = t.cells; followed = k; holds = b }) now) (sym h) (tied_part d k right)

  pub right_freed : (d : Done) → HasDoneMore t.journal d → ((cells : List Sym) (n : ℕ) → IsRight cells n t.journal.spans → IsRight cells n d.spans)
      → IsRight (take t.cells now.cells) d.variables d.spans
  right_freed d m h = subst (λ n. IsRight (take t.cells now.cells) n d.spans) (sym m.variables) (h (take t.cells now.cells) t.journal.variables right_back)

  pub keeps_freed : (d : Done) → HasDoneMore t.journal d → KeepsMoments (past_of t now) (history_of (take t.cells now.cells) d)
  keeps_freed d m =
      subst (λ z. KeepsMoments (past_of t now) (history_of z d)) (append-nil (take t.cells now.cells))
      (keeps_grown (take t.cells now.cells) [] t.journal d right_back m.moments m.earlier)

-- frames went back, and their store with them
module _ (t : Tie) (old new : Linked) (kept : Front) (tied : IsTied t old.store) (sound : IsSound old.store) (back : GoesBack kept old new) (is : kept ≡ front_of t) where
  pub is_back : IsBack t new.store
  is_back = record {
    before = old.store;
    sound = sound;
    tied = tied;
    mark = back.0;
    there = back.1;
    is = back.2 ∙ ap (λ (f : Front). undone f back.0 old.store) is;
  }

  pub past_stays : past_of t new.store ≡ past_of t old.store
  unfolding is_back
  past_stays = past_back t new.store is_back
