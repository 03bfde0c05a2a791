-- Frames stay where more cells are there, to which nothing leads.
use Rattle.std.proofs.Common.{◌≡◌, ℕ, ◌+◌, List, [], ◌∷◌, length, refl, ◌∙◌, ap, arith, ◌==◌, if◌then◌else◌}
use Rattle.apd_cells.specs.Stored.{Stored}
use Rattle.apd_cells.specs.Store.{term_at, at_mark, IsSound}
use Rattle.apd_cells.specs.Undone.{HasMoreCells}
use Rattle.apd_cells.proofs.Longer.{more_at_mark, more_length, more_term, sound_at_mark}
use Rattle.apd_trace.specs.declared.frame.Frame.{Frame}
use Rattle.apd_unify.specs.Cells.{AreCells}
use Rattle.apd_unify.specs.declared.store.Cell.{Cell}
use Rattle.apd_frames.specs.Links.{Link}
use Rattle.apd_notes.specs.declared.notes.Note.{Note}
use Rattle.apd_notes.specs.declared.notes.Note.TheVariants.{Saved, Handed}
use Rattle.apd_frames.specs.Instances.{terms_in, IsInside}
use Rattle.apd_frames.specs.Linked.{changed, taken_link, frame_in, frames_at, oldest, saved_of, ArePlaced, AreMarked, IsFramed}
use Rattle.apd_frames.proofs.Branching.{placed_more}
use Rattle.apd_frames.proofs.Linking.{tuple_of, with_tuple}

terms_more : (s t : Stored) (cs : List Cell) → HasMoreCells s t → IsSound s → AreCells (length s.cells) cs → terms_in t cs ≡ terms_in s cs
terms_more s t [] h i a = refl
terms_more s t (c ∷ cs) h i a = ap (λ x. x ∷ terms_in t cs) (more_term s t c.0 h i a.0) ∙ ap (λ xs. term_at s c.0 ∷ xs) (terms_more s t cs h i a.1)

frame_more : (s t : Stored) (l : Link) → HasMoreCells s t → IsSound s → IsInside (length s.cells) l.instance → frame_in t l ≡ frame_in s l
frame_more s t l h i a =
    ap (λ x. with_tuple l (tuple_of x (terms_in t l.instance.goals))) (more_term s t l.instance.head.0 h i a.head)
    ∙ ap (λ xs. with_tuple l (tuple_of (term_at s l.instance.head.0) xs)) (terms_more s t l.instance.goals h i a.goals)

pub frames_more : (s t : Stored) (links : List Link) (k : ℕ) → HasMoreCells s t → IsSound s → ArePlaced (length s.cells) links → frames_at t links k ≡ frames_at s links k
frames_more s t [] k h i a = refl
frames_more s t (l ∷ older) k h i a =
    let n = length older + 1 in
    ap (λ (f : Frame). if k == n then f ∷ frames_at t older l.around else frames_at t older k) (frame_more s t l h i a.0)
    ∙ ap (λ F. if k == n then frame_in s l ∷ F else frames_at t older k) (frames_more s t older l.around h i a.2)
    ∙ ap (λ F. if k == n then frame_in s l ∷ frames_at s older l.around else F) (frames_more s t older k h i a.2)

pub saved_more : (s t : Stored) (links : List Link) (bs : List Note) → HasMoreCells s t → IsSound s → AreMarked s links bs → saved_of t links bs ≡ saved_of s links bs
saved_more s t links [] h i a = refl
saved_more s t links (Handed k p ∷ bs) h i a = saved_more s t (changed (taken_link p) k links) bs h i a.1
saved_more s t links (Saved b ∷ bs) h i a =
    let k = b.mark.0 in
    let ls = oldest b.links links in
    let m = more_at_mark s t k h i in
    let j = sound_at_mark k s i in
    ap (λ F. F ∷ saved_of (at_mark k t) ls bs) (frames_more (at_mark k s) (at_mark k t) ls b.innermost m j a.3)
    ∙ ap (λ S. frames_at (at_mark k s) ls b.innermost ∷ S) (saved_more (at_mark k s) (at_mark k t) ls bs m j a.4)

marked_more : (s t : Stored) (links : List Link) (bs : List Note) → HasMoreCells s t → IsSound s → AreMarked s links bs → AreMarked t links bs
marked_more s t links [] h i a = tt
marked_more s t links (Handed k p ∷ bs) h i a = (a.0, marked_more s t (changed (taken_link p) k links) bs h i a.1)
marked_more s t links (Saved b ∷ bs) h i a =
    let k = b.mark.0 in
    let ls = oldest b.links links in
    let m = more_at_mark s t k h i in (
      omega (arith, a.0, ap length h.trail),
      a.1,
      a.2,
      placed_more (length (at_mark k s).cells) (length (at_mark k t).cells) ls (more_length (at_mark k s) (at_mark k t) m) a.3,
      marked_more (at_mark k s) (at_mark k t) ls bs m (sound_at_mark k s i) a.4,
    )

pub framed_more : (s t : Stored) (links : List Link) (k : ℕ) (bs : List Note) → HasMoreCells s t → IsSound s → IsFramed s links k bs → IsFramed t links k bs
framed_more s t links k bs h i f = record {
  placed = placed_more (length s.cells) (length t.cells) links (more_length s t h) f.placed;
  within = f.within;
  marked = marked_more s t links bs h i f.marked;
}
