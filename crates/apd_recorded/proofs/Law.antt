-- The record of a run: what it may be told, and what it is then.
use Rattle.std.proofs.Common.{◌≡◌, ◌≢◌, ℕ, zero, suc, ◌+◌, ◌-◌, List, [], ◌∷◌, ◌++◌, length, refl, sym, ◌∙◌, ap, subst, arith, Option, Some, None, ◌<◌, inl}
use Rattle.std.specs.Prelude.{slice_get, All}
use Rattle.apd_term.specs.Term.{Term}
use Rattle.apd_term.specs.Tuple.{canonical_tuple}
use Rattle.apd_term.specs.declared.tuple.Tuple.{Tuple}
use Rattle.apd_term.proofs.Tuples.{IsTupleInstance-trans, IsTupleInstance-canonical, canonical_is_instance}
use Rattle.apd_clauses.specs.Clauses.{IsAtom, IsClause}
use Rattle.apd_clauses.proofs.Pure.{user_is_atom, goals_are_atoms}
use Rattle.apd_ports.specs.declared.event.Event.{Event}
use Rattle.apd_ports.specs.declared.event.Port.{Port}
use Rattle.apd_ports.specs.declared.event.Port.TheVariants.{Call, Exit, Redo, Fail}
use Rattle.apd_ports.specs.declared.point.Point.{Point}
use Rattle.apd_record.specs.Recorded.{Recorded, box_at, point_at as point_in, empty, query_point, with_point, chain}
use Rattle.apd_record.specs.declared.rows.BoxRow.{BoxRow}
use Rattle.apd_record.specs.Sound.{clause_of, IsKept, IsSound}
use Rattle.apd_record.specs.Full.{IsFullAt, IsFull}
use Rattle.apd_record.specs.Chain.{AreChained, EachOwnsNext}
use Rattle.apd_record.proofs.Lists.{get-one}
use Rattle.apd_record.proofs.Growing.{Grown, grown_same, grown_then, grown_point, grown_opened, grown_noted}
use Rattle.apd_record.proofs.Keeping.{kept_empty, kept_point, sound_empty, sound_opened, sound_point, sound_noted}
use Rattle.apd_record.proofs.Trees.{bodies_are_proved}
use Rattle.apd_record.proofs.Filling.{full_empty, full_opened, full_point, full_noted}
use Rattle.apd_record.proofs.Chains.{chained_empty, chained_point, owns_next}
use Rattle.apd_record.proofs.Told.{may_begin}
use Rattle.apd_trace.specs.Frames.{query_frame, goal_of, look_at}
use Rattle.apd_trace.specs.Trace.{search_from, turn, up_to_error, trace}
use Rattle.apd_trace.specs.Run.{run_of, query_run, before_event}
use Rattle.apd_trace.specs.declared.item.Item.{Item}
use Rattle.apd_trace.specs.declared.item.Item.TheVariants.{Passed, Answer, Made, Error}
use Rattle.apd_recorded.specs.Told.{told, told_port, record_from, record_of, AnswersAreProved, MayPass, May, MayTake}
use Rattle.apd_recorded.specs.Within.{MayTakeTo}
use Rattle.apd_recorded.specs.Joint.{IsJoint}
use Rattle.apd_recorded.proofs.Tried.{AreAtoms, AreAtoms-of, All-at}
use Rattle.apd_recorded.proofs.Logic.{taken_up_to, passed_taken}
use Rattle.apd_recorded.proofs.State.{IsReady}
use Rattle.apd_recorded.proofs.Searching.{search_meets}

pub heads_of : (P : List Tuple) → All IsClause P → (c : ℕ) (r : Tuple) → clause_of P c ≡ Some r → IsAtom r.head
heads_of P all zero r at = cc
heads_of P all (suc i) r at = user_is_atom r.head (All-at IsClause P i r all at).head

pub bodies_of : (P : List Tuple) → All IsClause P → (c : ℕ) (r : Tuple) → clause_of P c ≡ Some r → AreAtoms r.body
bodies_of P all zero r at = cc
bodies_of P all (suc i) r at = AreAtoms-of r.body (goals_are_atoms r.body (All-at IsClause P i r all at).body.goals)

-- the query's point
pub no_box : (R : Recorded) (n : ℕ) (b : BoxRow) → R.boxes ≡ [] → box_at R n ≡ Some b → ⊥
no_box R zero b e h = cc
no_box R (suc n) b e h = let bad : slice_get [] n ≡ Some b = ap (λ bs. slice_get bs n) (sym e) ∙ h in cc

module _ (P : List Tuple) (all : All IsClause P) (query : Tuple) (atoms : All IsAtom query.body) where
  pub ready : IsReady (with_point empty (query_point query)) (query_frame query ∷ []) (canonical_tuple query ∷ []) 0 1
  ready = (
    record {
      placed = (record { before = None; there = refl; instance = IsTupleInstance-canonical query }, tt);
      boxed = (refl, tt);
      linked = tt;
      joint = choose;
      fit = (tt, tt);
      atoms = (AreAtoms-of query.body atoms, tt);
    },
    (
      record { kept = kept_point empty (query_point query) (may_begin query) kept_empty; chained = chained_point empty (query_point query) kept_empty chained_empty; boxes = refl; points = refl },
      record { newest = refl; as_made = canonical_is_instance query; childless = λ n b h. absurd (no_box (with_point empty (query_point query)) n b refl h); top = record { greatest = λ n a. absurd (no_box (with_point empty (query_point query)) n a.row refl a.there); is = inl refl } },
    ),
  )
    where
      choose : IsJoint (query_frame query ∷ []) (canonical_tuple query ∷ [])
      choose [] h = absurd h
      choose (t ∷ []) h = let i = IsTupleInstance-trans t (canonical_tuple query) query h.0 (canonical_is_instance query) in (i.0, ap (λ u. u ∷ []) i.1)
      choose (t ∷ u ∷ us) h = absurd h.1.1

  pub trace_taken : (k : ℕ) → MayTakeTo P k empty (trace P query k)
  trace_taken zero = tt
  trace_taken (suc k) = (
    (may_begin query, λ n b first owner there user. absurd (no_box empty n b refl there)),
    taken_up_to P (suc k) (with_point empty (query_point query)) (search_from P (suc k) (query_frame query ∷ []) 0 1).items
        (search_meets P (heads_of P all) (bodies_of P all) (suc k) (query_frame query ∷ []) (canonical_tuple query ∷ []) 0 1 (with_point empty (query_point query)) ready).0,
  )

  pub run_taken : (budget answers : ℕ) → MayTake P empty (query_run P query budget answers).passed
  run_taken budget answers = passed_taken P (budget + 1) empty (trace P query (budget + 1)) budget answers (omega arith) (trace_taken (budget + 1))

-- what a record is after items that it may be told
module _ (P : List Tuple) where
  sound_port : (R : Recorded) (e : Event) (port : Port) → MayPass P R e port → IsSound P R → IsSound P (told_port R e port)
  sound_port R e Call may sound = sound_opened P R e.atom (length R.points - 1) may.0 sound
  sound_port R e Exit may sound = sound_noted P R e.box_no Exit sound
  sound_port R e Redo may sound = sound_noted P R e.box_no Redo sound
  sound_port R e Fail may sound = sound_noted P R e.box_no Fail sound

  pub sound_told : (R : Recorded) (x : Item) → May P R x → IsSound P R → IsSound P (told R x)
  sound_told R (Passed e) may sound = sound_port R e e.port may.0 sound
  sound_told R (Made p) may sound = sound_point P R p may.0 may.1 sound
  sound_told R (Answer a) may sound = sound
  sound_told R (Error e b) may sound = sound

  full_port : (R : Recorded) (e : Event) (port : Port) → MayPass P R e port → IsKept R → IsFull P R → IsFull P (told_port R e port)
  full_port R e Call may kept full = full_opened P R e.atom (length R.points - 1) kept full
  full_port R e Exit may kept full = full_noted P R e.box_no Exit (λ b there complete. full e.box_no b there complete) full
  full_port R e Redo may kept full = full_noted P R e.box_no Redo (λ b there complete. full e.box_no b there complete) full
  full_port R e Fail may kept full =
      full_noted P R e.box_no Fail (λ b there complete. subst (IsFullAt P R e.box_no) (get-one (box_at R e.box_no) may.0 b may.1 there) may.2) full

  pub full_told : (R : Recorded) (x : Item) → May P R x → IsKept R → IsFull P R → IsFull P (told R x)
  full_told R (Passed e) may kept full = full_port R e e.port may.0 kept full
  full_told R (Made p) may kept full = full_point P R p may.0 kept full
  full_told R (Answer a) may kept full = full
  full_told R (Error e b) may kept full = full

  pub sound_from : (R : Recorded) (xs : List Item) → MayTake P R xs → IsSound P R → IsSound P (record_from R xs)
  sound_from R [] may sound = sound
  sound_from R (x ∷ xs) may sound = sound_from (told R x) xs may.1 (sound_told R x may.0 sound)

  pub full_from : (R : Recorded) (xs : List Item) → MayTake P R xs → IsSound P R → IsFull P R → IsFull P (record_from R xs)
  full_from R [] may sound full = full
  full_from R (x ∷ xs) may sound full = full_from (told R x) xs may.1 (sound_told R x may.0 sound) (full_told R x may.0 sound.kept full)

  pub run_sound : All IsClause P → (query : Tuple) → All IsAtom query.body → (budget answers : ℕ) → IsSound P (record_of (query_run P query budget answers).passed)
  run_sound all query atoms budget answers = sound_from empty (query_run P query budget answers).passed (run_taken P all query atoms budget answers) (sound_empty P)

  pub run_full : All IsClause P → (query : Tuple) → All IsAtom query.body → (budget answers : ℕ) → IsFull P (record_of (query_run P query budget answers).passed)
  run_full all query atoms budget answers = full_from empty (query_run P query budget answers).passed (run_taken P all query atoms budget answers) (sound_empty P) (full_empty P)

  pub chained_told : (R : Recorded) (x : Item) → May P R x → IsKept R → AreChained R → AreChained (told R x)
  chained_told R (Passed e) may kept chained = may.1
  chained_told R (Made p) may kept chained = chained_point R p kept chained
  chained_told R (Answer a) may kept chained = chained
  chained_told R (Error e b) may kept chained = chained

  chained_from : (R : Recorded) (xs : List Item) → MayTake P R xs → IsSound P R → AreChained R → AreChained (record_from R xs)
  chained_from R [] may sound chained = chained
  chained_from R (x ∷ xs) may sound chained = chained_from (told R x) xs may.1 (sound_told R x may.0 sound) (chained_told R x may.0 sound.kept chained)

  pub run_chained : All IsClause P → (query : Tuple) → All IsAtom query.body → (budget answers : ℕ) → AreChained (record_of (query_run P query budget answers).passed)
  run_chained all query atoms budget answers = chained_from empty (query_run P query budget answers).passed (run_taken P all query atoms budget answers) (sound_empty P) chained_empty

  pub run_owns_next : All IsClause P → (query : Tuple) → All IsAtom query.body → (budget answers : ℕ) → EachOwnsNext (record_of (query_run P query budget answers).passed) 0 (chain (record_of (query_run P query budget answers).passed))
  run_owns_next all query atoms budget answers =
      owns_next (record_of (query_run P query budget answers).passed) (run_sound all query atoms budget answers).kept (run_chained all query atoms budget answers)

-- the query's point comes first
grown_port : (R : Recorded) (e : Event) (port : Port) → Grown R (told_port R e port)
grown_port R e Call = grown_opened R e.atom (length R.points - 1)
grown_port R e Exit = grown_noted R e.box_no Exit
grown_port R e Redo = grown_noted R e.box_no Redo
grown_port R e Fail = grown_noted R e.box_no Fail

pub grown_told : (R : Recorded) (x : Item) → Grown R (told R x)
grown_told R (Passed e) = grown_port R e e.port
grown_told R (Made p) = grown_point R p
grown_told R (Answer a) = grown_same R
grown_told R (Error e b) = grown_same R

pub grown_from : (R : Recorded) (xs : List Item) → Grown R (record_from R xs)
grown_from R [] = grown_same R
grown_from R (x ∷ xs) = grown_then R (told R x) (record_from (told R x) xs) (grown_told R x) (grown_from (told R x) xs)

-- what is passed begins with the query's point, if it is anything
held_first : (p : Point) (xs : List Item) → xs ≢ [] → point_in (record_of (before_event (Made p) xs)) 0 ≡ Some p
held_first p [] h = absurd (h refl)
held_first p (x ∷ xs) h = (grown_from (with_point empty p) (x ∷ xs)).points 0 p refl

-- what may be told at a place of the items
taken_at : (P : List Tuple) (R : Recorded) (xs : List Item) (x : Item) (ys : List Item) → MayTake P R (xs ++ x ∷ ys) → MayTake P R xs × May P (record_from R xs) x
taken_at P R [] x ys h = (tt, h.0)
taken_at P R (y ∷ xs) x ys h = let r = taken_at P (told R y) xs x ys h.1 in ((h.0, r.0), r.1)

pub answers_proved : (P : List Tuple) → All IsClause P → (query : Tuple) → All IsAtom query.body → (budget answers : ℕ) → AnswersAreProved P (query_run P query budget answers).passed
answers_proved P all query atoms budget answers xs ys a is =
    let t = taken_at P empty xs (Answer a) ys (subst (MayTake P empty) is (run_taken P all query atoms budget answers)) in
    (t.1, bodies_are_proved P (record_of xs) (sound_from P empty xs t.0 (sound_empty P)) (length (record_of xs).points - 1) t.1.point t.1.there t.1.is_exit)

-- something is passed where a port may be
first_event : (P : List Tuple) (k b answers : ℕ) (query : Tuple) (o : Option Term)
    → (run_of (up_to_error (turn (search_from P k) P (look_at o (query_frame query) [] 1) (query_frame query ∷ []) 0 1).items) (suc b) answers).passed ≢ []
first_event P k b answers query (Some a) e = cc
first_event P k b zero query None e = cc
first_event P k b (suc zero) query None e = cc
first_event P k b (suc (suc answers)) query None e = cc

begins : (P : List Tuple) (query : Tuple) (budget answers : ℕ) → 0 < budget → (run_of (up_to_error (search_from P (budget + 1) (query_frame query ∷ []) 0 1).items) budget answers).passed ≢ []
begins P query zero answers lt = absurd (omega arith)
begins P query (suc b) answers lt =
    let e : suc b + 1 ≡ suc (suc b) = omega arith in
    subst (λ k. (run_of (up_to_error (search_from P k (query_frame query ∷ []) 0 1).items) (suc b) answers).passed ≢ []) (sym e) (first_event P (suc b) b answers query (goal_of (query_frame query)))

pub query_first : (P : List Tuple) (query : Tuple) (budget answers : ℕ) → 0 < budget → point_in (record_of (query_run P query budget answers).passed) 0 ≡ Some (query_point query)
query_first P query budget answers lt =
    held_first (query_point query) (run_of (up_to_error (search_from P (budget + 1) (query_frame query ∷ []) 0 1).items) budget answers).passed (begins P query budget answers lt)
