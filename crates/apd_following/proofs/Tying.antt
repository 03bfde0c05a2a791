-- What stays of a tie where the store goes on, and where a journal catches up with it.
use Rattle.std.proofs.Common.{◌≡◌, ℕ, ◌-◌, ◌≤◌, List, [], ◌++◌, length, take, drop, refl, sym, ◌∙◌, ap, subst, arith, true, false}
use Rattle.std.specs.Prelude.{max}
use Rattle.std.proofs.Math.Seq.{take-length}
use Rattle.std.proofs.lemmas.Bool.{OnTrue_at, OnTrue_from}
use Rattle.std.proofs.lemmas.List.{length-append, take-append-drop, take-append-le, take_all, drop_all}
use Rattle.apd_cells.specs.Stored.{Stored}
use Rattle.apd_cells.specs.Store.{at_mark, HasCells, IsSound, Keeps}
use Rattle.apd_cells.proofs.Keeping.{at_mark-at_mark}
use Rattle.apd_cells.proofs.Meaning.{HasCells-of}
use Rattle.apd_cells.proofs.Undoing.{at_mark-here, before_trail}
use Rattle.apd_past.specs.Done.{Done, with_room}
use Rattle.apd_past.specs.Follows.{Follows, MayFollow, bindings_in}
use Rattle.apd_past.specs.History.{bindings_at, bindings_of, HasDoneMore, KeepsMoments, history_of, IsRight}
use Rattle.apd_past.proofs.Keeping.{keeps_grown, keeps_wider}
use Rattle.apd_past.proofs.Marks.{front_at_mark}
use Rattle.apd_past.proofs.Moments.{right_more, right_wider}
use Rattle.apd_tuples.specs.Spots.{Place}
use Rattle.apd_tuples.specs.Tuples.{kept_tuples, AreThere}
use Rattle.apd_following.specs.declared.tie.Tie.{Tie}
use Rattle.apd_following.specs.Tied.{past_of, FollowsTo, IsLevel, IsTied}

-- nothing is kept, and nothing was followed
pub tied_none : (d : Done) (s : Stored) → d ≡ record { variables = 0; moments = 0; spans = [] } → IsTied (record { journal = d; cells = 0; followed = 0; holds = true }) s
tied_none d s e =
    rw e (record {
      within = omega arith;
      right = record { whole = refl; below = λ v o. absurd o };
      follows = record {
        there = omega arith;
        follows = sym (ap bindings_in (before_trail s.cells s.variables s.trail (length s.trail - 0) ∙ drop_all (length s.trail - 0) s.trail (omega arith)));
      };
    })

-- the store is what it was
pub tied_same : (t : Tie) (s s' : Stored) → IsTied t s → s' ≡ s → IsTied t s'
tied_same t s s' h e = subst (IsTied t) (sym e) h

pub there_same : (t : Tie) (s s' : Stored) (ps : List Place) → AreThere (past_of t s) ps → s' ≡ s → AreThere (past_of t s') ps
there_same t s s' ps h e = subst (λ x. AreThere (past_of t x) ps) (sym e) h

pub kept_same : (t : Tie) (s s' : Stored) (ps : List Place) → s' ≡ s → kept_tuples (past_of t s') ps ≡ kept_tuples (past_of t s) ps
kept_same t s s' ps e = ap (λ x. kept_tuples (past_of t x) ps) e

-- the store went on
module _ (s s' : Stored) (k : Keeps s s') where
  longer : s'.cells ≡ s.cells ++ (front_at_mark (length s.trail) s').0
  longer =
      let f = front_at_mark (length s.trail) s' in
      f.1 ∙ ap (λ (x : Stored). x.cells ++ f.0) k.1

  front_more : (n : ℕ) → n ≤ length s.cells → take n s'.cells ≡ take n s.cells
  front_more n l = ap (take n) longer ∙ take-append-le n s.cells (front_at_mark (length s.trail) s').0 l

  follows_more : (n : ℕ) (d : Done) → FollowsTo n d s → FollowsTo n d s'
  follows_more n d h = record {
    there = omega (arith, h.there, k.0);
    follows = h.follows ∙ ap (λ (x : Stored). bindings_in x.trail) (ap (at_mark n) (sym k.1) ∙ at_mark-at_mark n (length s.trail) s' h.there k.0);
  }

  pub past_more : (t : Tie) → IsTied t s → past_of t s' ≡ past_of t s
  past_more t h = ap (λ z. history_of z t.journal) (front_more t.cells h.within)

  pub tied_more : (t : Tie) → IsTied t s → IsTied t s'
  tied_more t h = record {
    within = omega (arith, h.within, ap length longer, length-append s.cells (front_at_mark (length s.trail) s').0);
    right = subst (λ z. IsRight z t.journal.variables t.journal.spans) (sym (front_more t.cells h.within)) h.right;
    follows = OnTrue_from t.holds (FollowsTo t.followed t.journal s') (λ e. follows_more t.followed t.journal (OnTrue_at e h.follows));
  }

  pub there_more : (t : Tie) (ps : List Place) → IsTied t s → AreThere (past_of t s) ps → AreThere (past_of t s') ps
  there_more t ps h a = subst (λ x. AreThere x ps) (sym (past_more t h)) a

  pub kept_more : (t : Tie) (ps : List Place) → IsTied t s → kept_tuples (past_of t s') ps ≡ kept_tuples (past_of t s) ps
  kept_more t ps h = ap (λ x. kept_tuples x ps) (past_more t h)

-- all of the store is kept
module _ (t : Tie) (s : Stored) (h : IsTied t s) where
  -- there is room for its variables
  pub tied_roomy : (d : Done) → d.moments ≡ t.journal.moments → d.spans ≡ t.journal.spans → t.journal.variables ≤ d.variables → IsTied (record { journal = d; cells = t.cells; followed = t.followed; holds = t.holds }) s
  tied_roomy d k e l = record {
    within = h.within;
    right = subst (λ ss. IsRight (take t.cells s.cells) d.variables ss) (sym e) (right_wider (take t.cells s.cells) t.journal.variables d.variables t.journal.spans h.right l);
    follows = OnTrue_from t.holds (FollowsTo t.followed d s)
        (λ q. (let f = OnTrue_at q h.follows in record {
          there = f.there;
          follows = ap (λ m. bindings_at m d.spans) k ∙ ap (λ ss. bindings_at t.journal.moments ss) e ∙ f.follows;
        }));
  }

  pub keeps_roomy : (d : Done) → d.moments ≡ t.journal.moments → d.spans ≡ t.journal.spans → KeepsMoments (past_of t s) (history_of (take t.cells s.cells) d)
  keeps_roomy d k e = keeps_wider (past_of t s) (history_of (take t.cells s.cells) d) refl k e

  -- the journal may follow
  module _ (sound : IsSound s) (d : Done) (room : d ≡ with_room t.journal s.variables) where
    whole_right : IsRight s.cells d.variables d.spans
    whole_right =
        let n = max t.journal.variables s.variables in
        let is : take t.cells s.cells ++ drop t.cells s.cells ≡ s.cells = take-append-drop t.cells s.cells in
        let w = HasCells-of s.cells s.variables s.trail sound in
        let whole : HasCells s.cells n = record { whole = w.whole; below = λ v o. (let b = w.below v o in omega arith) } in
        rw room (subst (λ z. IsRight z n t.journal.spans) is
        (right_more (take t.cells s.cells) (drop t.cells s.cells) t.journal.variables n t.journal.spans (subst (λ z. HasCells z n) (sym is) whole) (omega arith) h.right))

    pub may_follow : t.holds ≡ true → MayFollow d s t.followed
    may_follow q =
        let f = OnTrue_at q h.follows in
        record {
          sound = sound;
          there = f.there;
          follows = ap bindings_of room ∙ f.follows;
          room = omega (arith, ap (λ (x : Done). x.variables) room);
          right = whole_right;
        }

    pub keeps_caught : (d' : Done) (n : ℕ) → HasDoneMore d d' → n ≡ length s.cells → KeepsMoments (past_of t s) (history_of (take n s.cells) d')
    keeps_caught d' n m e =
        subst (λ z. KeepsMoments (past_of t s) (history_of z d')) (take-append-drop t.cells s.cells ∙ sym (ap (λ k. take k s.cells) e ∙ take-length s.cells))
        (keeps_grown (take t.cells s.cells) (drop t.cells s.cells) t.journal d' h.right
        (subst (λ (x : Done). x.moments ≤ d'.moments) room m.moments)
        (subst (λ (x : Done). (k : ℕ) → k ≤ x.moments → bindings_at k d'.spans ≡ bindings_at k x.spans) room m.earlier))

-- it has followed a part, or all
pub caught_part : (d : Done) (s : Stored) (n k : ℕ) → IsRight s.cells d.variables d.spans → n ≡ length s.cells → IsTied (record { journal = d; cells = n; followed = k; holds = false }) s
caught_part d s n k r e = record {
  within = omega (arith, e);
  right = subst (λ z. IsRight z d.variables d.spans) (sym (ap (λ j. take j s.cells) e ∙ take-length s.cells)) r;
  follows = tt;
}

pub caught_all : (d : Done) (s : Stored) (n k : ℕ) → IsRight s.cells d.variables d.spans → n ≡ length s.cells → Follows d s → k ≡ length s.trail
    → IsTied (record { journal = d; cells = n; followed = k; holds = true }) s
caught_all d s n k r e f i = record {
  within = omega (arith, e);
  right = subst (λ z. IsRight z d.variables d.spans) (sym (ap (λ j. take j s.cells) e ∙ take-length s.cells)) r;
  follows = record { there = omega (arith, i); follows = f ∙ ap (λ (x : Stored). bindings_in x.trail) (sym (at_mark-here k s (omega (arith, i)))) };
}

pub all_kept : (d : Done) (s : Stored) (n : ℕ) → n ≡ length s.cells → history_of (take n s.cells) d ≡ history_of s.cells d
all_kept d s n e = ap (λ z. history_of z d) (ap (λ j. take j s.cells) e ∙ take-length s.cells)

-- nothing was done that it hasn't followed, and all is kept
module _ (t : Tie) (s : Stored) (h : IsTied t s) (l : IsLevel t s) where
  pub level_follows : Follows t.journal s
  level_follows =
      let f = OnTrue_at l.holds h.follows in
      f.follows ∙ ap (λ (x : Stored). bindings_in x.trail) (at_mark-here t.followed s l.notes)

  pub level_all : past_of t s ≡ history_of s.cells t.journal
  level_all = ap (λ z. history_of z t.journal) (take_all t.cells s.cells l.cells)
