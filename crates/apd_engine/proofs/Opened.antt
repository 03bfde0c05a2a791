-- The search that is opened for a query whose point is kept.
use Rattle.std.proofs.Common.{◌≡◌, ◌∷◌, [], ◌++◌, length, refl, ap, sym, ◌∙◌, None}
use Rattle.apd_term.specs.Term.{variable}
use Rattle.apd_term.specs.Canonical.{by_appearance, place_of}
use Rattle.apd_term.specs.Tuple.{canonical_tuple, variables_of_tuple}
use Rattle.apd_term.specs.declared.tuple.Tuple.{Tuple}
use Rattle.apd_trace.specs.Frames.{query_frame}
use Rattle.apd_trace.specs.declared.frame.Frame.{Frame}
use Rattle.apd_trace.proofs.Clauses.{canonical_back}
use Rattle.apd_trace.proofs.Renamed.{same_canonical_tuple}
use Rattle.apd_following.specs.Followed.{Followed, IsKept, kept_of}
use Rattle.apd_following.specs.declared.following.KeptFrame.{KeptFrame}
use Rattle.apd_frames.specs.Kept.{Kept}
use Rattle.apd_engine.specs.Given.{IsOpened}
use Rattle.apd_engine.specs.Search.{Standing, opened, stand}
use Rattle.apd_engine.specs.declared.search.Search.{Search}

-- a canonical form is its own
canonical_again : (q : Tuple) → canonical_tuple (canonical_tuple q) ≡ canonical_tuple q
canonical_again q =
    let b = canonical_back q in
    sym (same_canonical_tuple (λ v. variable (place_of (by_appearance (variables_of_tuple q)) v)) b.0 q b.1)

pub opened_kept : (query : Tuple) (s : Search) (f : Followed) (n : KeptFrame) → stand s ≡ opened query → s.frames.tuples ≡ [] → kept_of f ≡ kept_of s.frames → IsKept n s.frames.current s.frames.tuples f.tuples
    → IsOpened query (record { frames = f; mode = s.mode; stack = s.stack; boxes = s.boxes; points = s.points }) (record { owner = n.owner; clause = n.clause; done = n.done; tuple = n.tuple; before = None })
opened_kept query s f n is none same kept =
    let around : kept.frame ∷ kept.around ≡ query_frame (canonical_tuple query) ∷ [] = sym kept.is ∙ ap (λ (t : Standing). t.frames.current) is in
    let frame : kept.frame ≡ query_frame (canonical_tuple query) = cc in
    let tuple : canonical_tuple kept.frame.tuple ≡ canonical_tuple query = ap (λ (g : Frame). canonical_tuple g.tuple) frame ∙ canonical_again query in
    let tuples : f.tuples ≡ canonical_tuple query ∷ [] = kept.more ∙ ap (λ ts. ts ++ canonical_tuple kept.frame.tuple ∷ []) none ∙ ap (λ t. t ∷ []) tuple in
    let number : n.tuple.number ≡ 0 = kept.number ∙ ap length none in
    record {
      search = ap (λ (k : Kept). record { frames = k; mode = s.mode; stack = s.stack; boxes = s.boxes; points = s.points }) same ∙ is;
      tuples = tuples;
      first = record {
        tuple = canonical_tuple query;
        there = rw (tuples, number) refl;
        goals = kept.goals ∙ ap (λ (g : Frame). length g.tuple.body) frame;
        is = rw (kept.owner, kept.clause, kept.done, frame) refl;
      };
    }
