-- What closes a term, frame by frame.
use Rattle.std.proofs.Common.{ℕ, ◌≡◌, ◌+◌, List, [], ◌∷◌, ◌++◌, refl, ap, sym, ◌∙◌, arith, append_assoc, suc}
use Rattle.std.proofs.lemmas.List.{append-nil}
use Rattle.std.specs.Prelude.{codes, Option, Some, None}
use Rattle.apd_ops.specs.Table.{Table}
use Rattle.apd_write.specs.Writing.{Part}
use Rattle.apd_write.specs.Pending.{AddsClosing, Leaves, resume, resumed_in, takes, takes_in_all, with_arguments}
use Rattle.apd_write.specs.declared.pending.TermPlace.{TermPlace}
use Rattle.apd_write.specs.declared.pending.TermPlace.TheVariants as place
use Rattle.apd_write.specs.declared.pending.PendingFrame.{PendingFrame}
use Rattle.apd_write.specs.declared.pending.PendingFrame.TheVariants as frame
use Rattle.apd_write.proofs.Frames.{resume-push, takes-push}

-- what isn't an argument pushes no frame
pub no_arguments : (here : TermPlace) (frames : List PendingFrame) → ((left : ℕ) → here ≡ place.Argument left → ⊥) → with_arguments here frames ≡ frames
no_arguments (place.Argument left) frames other = absurd (other left refl)
no_arguments (place.Whole max) frames other = refl
no_arguments (place.Left max) frames other = refl
no_arguments (place.Right max) frames other = refl
no_arguments place.Rest frames other = refl

-- the comma before one more argument
pub argument_left : (ops : Table) (names : List (List ℕ)) (n m : ℕ) (frames : List PendingFrame) (out out_now : List ℕ) → n ≡ suc m →
    out_now ≡ out ++ codes "," → Leaves ops names (frame.Arguments n) frames frames out out_now (Some (place.Argument m))
argument_left ops names n m frames out out_now some added = rw some (
  codes ",",
  added,
  record {
    count = let e = takes-push frames (frame.Arguments m) in omega (arith, e);
    text = λ after p ps. ap (λ (g : List Part → List ℕ). 44 ∷ (p.text 999 ++ g ps)) (sym (resume-push ops names frames (frame.Arguments m) after));
  },
)

-- what was closed so far
pub record Closing (ops : Table) (names : List (List ℕ)) (frames frames_now : List PendingFrame) (out out_now : List ℕ) : Type 0 where
  pub marks : List ℕ
  pub adds : out_now ≡ out ++ marks
  pub count : takes_in_all frames ≡ takes_in_all frames_now
  pub text : (after : List Part → List ℕ) (ps : List Part) → resume ops names frames after ps ≡ marks ++ resume ops names frames_now after ps

pub Closing-more : (ops : Table) (names : List (List ℕ)) (frames frames_now popped next : List PendingFrame) (f : PendingFrame) (out out_now out_next : List ℕ) →
    Closing ops names frames frames_now out out_now → frames_now ≡ popped ++ f ∷ [] → Leaves ops names f popped next out_now out_next None →
    Closing ops names frames next out out_next
Closing-more ops names frames frames_now popped next f out out_now out_next before is leaves = rw leaves.2.same (record {
  marks = before.marks ++ leaves.0;
  adds = leaves.1 ∙ ap (λ (o : List ℕ). o ++ leaves.0) before.adds ∙ append_assoc out before.marks leaves.0;
  count =
      let e : takes_in_all frames_now ≡ takes_in_all popped + takes f = ap takes_in_all is ∙ takes-push popped f in
      let b = before.count in
      let n = leaves.2.count in
      omega (arith, b, e, n);
  text = λ after ps. before.text after ps
      ∙ ap (λ (o : List PendingFrame). before.marks ++ resume ops names o after ps) is
      ∙ ap (λ (g : List Part → List ℕ). before.marks ++ g ps) (resume-push ops names popped f after)
      ∙ ap (λ (x : List ℕ). before.marks ++ x) (leaves.2.text (resume ops names popped after) ps)
      ∙ sym (append_assoc before.marks leaves.0 (resume ops names popped after ps));
})

pub Closing-next : (ops : Table) (names : List (List ℕ)) (frames frames_now popped next : List PendingFrame) (f : PendingFrame) (out out_now out_next : List ℕ) (here : TermPlace) →
    Closing ops names frames frames_now out out_now → frames_now ≡ popped ++ f ∷ [] → Leaves ops names f popped next out_now out_next (Some here) →
    AddsClosing ops names frames next out out_next (Some here)
Closing-next ops names frames frames_now popped next f out out_now out_next here before is leaves = (
  before.marks ++ leaves.0,
  leaves.1 ∙ ap (λ (o : List ℕ). o ++ leaves.0) before.adds ∙ append_assoc out before.marks leaves.0,
  record {
    count =
        let e : takes_in_all frames_now ≡ takes_in_all popped + takes f = ap takes_in_all is ∙ takes-push popped f in
        let b = before.count in
        let n = leaves.2.count in
        omega (arith, b, e, n);
    text = λ after p ps. before.text after (p ∷ ps)
        ∙ ap (λ (o : List PendingFrame). before.marks ++ resume ops names o after (p ∷ ps)) is
        ∙ ap (λ (g : List Part → List ℕ). before.marks ++ g (p ∷ ps)) (resume-push ops names popped f after)
        ∙ ap (λ (x : List ℕ). before.marks ++ x) (leaves.2.text after p ps)
        ∙ sym (append_assoc before.marks leaves.0 (resumed_in ops names here next after (p ∷ ps)));
  },
)

-- nothing was closed yet
Closing-start : (ops : Table) (names : List (List ℕ)) (frames : List PendingFrame) (out : List ℕ) → Closing ops names frames frames out out
Closing-start ops names frames out = record { marks = []; adds = sym (append-nil out); count = refl; text = λ after ps. refl }

-- the comma behind an argument whose frame isn't pushed
pub argument_closed : (ops : Table) (names : List (List ℕ)) (n m : ℕ) (frames : List PendingFrame) (out out_now : List ℕ) → n ≡ suc m → out_now ≡ out ++ codes "," →
    AddsClosing ops names (frames ++ frame.Arguments n ∷ []) frames out out_now (Some (place.Argument m))
argument_closed ops names n m frames out out_now some added =
    Closing-next ops names (frames ++ frame.Arguments n ∷ []) (frames ++ frame.Arguments n ∷ []) frames frames (frame.Arguments n) out out out_now (place.Argument m)
    (Closing-start ops names (frames ++ frame.Arguments n ∷ []) out) refl (argument_left ops names n m frames out out_now some added)

-- the parenthesis behind the last one
last_closed : (ops : Table) (names : List (List ℕ)) (frames : List PendingFrame) (out out_now : List ℕ) → out_now ≡ out ++ codes ")" →
    Closing ops names (frames ++ frame.Arguments 0 ∷ []) frames out out_now
last_closed ops names frames out out_now added =
    Closing-more ops names (frames ++ frame.Arguments 0 ∷ []) (frames ++ frame.Arguments 0 ∷ []) frames frames (frame.Arguments 0) out out out_now
    (Closing-start ops names (frames ++ frame.Arguments 0 ∷ []) out) refl (codes ")", added, record { count = refl; same = refl; text = λ after ps. refl })

closed_then : (ops : Table) (names : List (List ℕ)) (frames frames_mid frames_now : List PendingFrame) (out out_mid out_now : List ℕ) (next : Option TermPlace) →
    Closing ops names frames frames_mid out out_mid → AddsClosing ops names frames_mid frames_now out_mid out_now next → AddsClosing ops names frames frames_now out out_now next
closed_then ops names frames frames_mid frames_now out out_mid out_now (Some next) before closing = (
  before.marks ++ closing.0,
  closing.1 ∙ ap (λ (o : List ℕ). o ++ closing.0) before.adds ∙ append_assoc out before.marks closing.0,
  record {
    count = before.count ∙ closing.2.count;
    text = λ after p ps. before.text after (p ∷ ps)
        ∙ ap (λ (x : List ℕ). before.marks ++ x) (closing.2.text after p ps)
        ∙ sym (append_assoc before.marks closing.0 (resumed_in ops names next frames_now after (p ∷ ps)));
  },
)
closed_then ops names frames frames_mid frames_now out out_mid out_now None before closing = (
  before.marks ++ closing.0,
  closing.1 ∙ ap (λ (o : List ℕ). o ++ closing.0) before.adds ∙ append_assoc out before.marks closing.0,
  record {
    count = before.count ∙ closing.2.count;
    none = closing.2.none;
    text = λ after ps. before.text after ps
        ∙ ap (λ (x : List ℕ). before.marks ++ x) (closing.2.text after ps)
        ∙ sym (append_assoc before.marks closing.0 (after ps));
  },
)

pub last_argument_closed : (ops : Table) (names : List (List ℕ)) (left : ℕ) (frames frames_now : List PendingFrame) (out out_mid out_now : List ℕ) (next : Option TermPlace) → left ≡ 0 →
    out_mid ≡ out ++ codes ")" → AddsClosing ops names frames frames_now out_mid out_now next → AddsClosing ops names (frames ++ frame.Arguments left ∷ []) frames_now out out_now next
last_argument_closed ops names left frames frames_now out out_mid out_now next none added closing = rw none (
    closed_then ops names (frames ++ frame.Arguments 0 ∷ []) frames frames_now out out_mid out_now next (last_closed ops names frames out out_mid added) closing
    )

pub Closing-end : (ops : Table) (names : List (List ℕ)) (frames frames_now : List PendingFrame) (out out_now : List ℕ) → Closing ops names frames frames_now out out_now → frames_now ≡ [] →
    AddsClosing ops names frames frames_now out out_now None
Closing-end ops names frames frames_now out out_now before is = (
  before.marks,
  before.adds,
  record {
    count = before.count ∙ ap takes_in_all is;
    none = is;
    text = λ after ps. before.text after ps ∙ ap (λ (o : List PendingFrame). before.marks ++ resume ops names o after ps) is;
  },
)
