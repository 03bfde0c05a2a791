-- The nodes of a list of frames.
use Rattle.std.proofs.Common.{◌≡◌, ℕ, ◌+◌, ◌<◌, ◌≤◌, List, [], ◌∷◌, ◌++◌, length, get_or, take, map, refl, sym, ◌∙◌, ap, subst}
use Rattle.std.proofs.lemmas.List.{take_all, take_more, map_more}
use Rattle.apd_term.specs.Term.{Term, apply, IsGround}
use Rattle.apd_term.specs.Tuple.{apply_tuple}
use Rattle.apd_term.specs.declared.tuple.Tuple.{Tuple}
use Rattle.apd_term.proofs.Ground.{apply-ground}
use Rattle.apd_trace.specs.Frames.{apply_frame, apply_frames}
use Rattle.apd_trace.specs.declared.frame.Frame.{Frame}
use Rattle.apd_by_definition.specs.Shared.{frame_of}
use Rattle.apd_by_definition.specs.declared.engine.frames.Node.{Node}

-- one more atom that no substitution changes
pub unchanged_more : (s : ℕ → Term) (xs : List Term) (i : ℕ) (x : Term) → i < length xs → x ≡ get_or xs i x → IsGround x → map (apply s) (take i xs) ≡ take i xs → map (apply s) (take (i + 1) xs) ≡ take (i + 1) xs
unchanged_more s xs i x lt at ground was =
    map_more (apply s) xs i x lt
    ∙ ap (λ ys. ys ++ apply s (get_or xs i x) ∷ []) was
    ∙ ap (λ y. take i xs ++ y ∷ []) (apply-ground s (get_or xs i x) (subst IsGround at ground))
    ∙ sym (take_more xs i x lt)

-- a tuple that no substitution changes
pub unchanged_all : (s : ℕ → Term) (t : Tuple) (xs : List Term) (i : ℕ) → IsGround t.head → xs ≡ t.body → length xs ≤ i → map (apply s) (take i xs) ≡ take i xs → apply_tuple s t ≡ t
unchanged_all s t xs i ground is past was =
    let whole : map (apply s) xs ≡ xs = subst (λ ys. map (apply s) ys ≡ ys) (take_all i xs past) was in
    let body : map (apply s) t.body ≡ t.body = subst (λ ys. map (apply s) ys ≡ ys) is whole in
    rw (apply-ground s t.head ground, body) refl

-- what a node stands for under a substitution
abbrev pub applied_frame_of : (ℕ → Term) → Node → Frame
applied_frame_of s n = apply_frame s (frame_of n)

map_twice : (s : ℕ → Term) (nodes : List Node) → map (applied_frame_of s) nodes ≡ apply_frames s (map frame_of nodes)
map_twice s [] = refl
map_twice s (n ∷ nodes) = ap (λ F. applied_frame_of s n ∷ F) (map_twice s nodes)

-- all of them
pub nodes_all : (s : ℕ → Term) (first : Frame) (nodes out : List Node) (F : List Frame) (i : ℕ)
    → map frame_of nodes ≡ F → length nodes ≤ i → map frame_of out ≡ first ∷ map (applied_frame_of s) (take i nodes) → map frame_of out ≡ first ∷ apply_frames s F
nodes_all s first nodes out F i is past was =
    was ∙ ap (λ ns. first ∷ map (applied_frame_of s) ns) (take_all i nodes past) ∙ ap (λ z. first ∷ z) (map_twice s nodes) ∙ ap (λ G. first ∷ apply_frames s G) is

-- all of them
pub shared_all : (nodes out : List Node) (F : List Frame) (i : ℕ)
    → map frame_of nodes ≡ F → length nodes ≤ i → map frame_of out ≡ map frame_of (take i nodes) → map frame_of out ≡ F
shared_all nodes out F i is past was = was ∙ ap (map frame_of) (take_all i nodes past) ∙ is
