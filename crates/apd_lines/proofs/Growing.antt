-- Names that grow while lines are heard and read.
use Rattle.std.proofs.Common.{◌≡◌, ℕ, ◌+◌, ◌<◌, ◌≤◌, List, [], ◌++◌, length, ap, sym, ◌∙◌, refl, arith, append_assoc, length-append}
use Rattle.std.proofs.lemmas.List.{append-nil}
use Rattle.apd_console.specs.Console.{HearsLine, Kept, Left, room_of}
use Rattle.apd_console.specs.declared.line.Line.{Line}
use Rattle.apd_console.specs.declared.line.Line.TheVariants.{Text, TooLong}
use Rattle.apd_console.proofs.Heard.{line_short}
use Rattle.apd_term.specs.Growth.{Grown, GrowsBy}
use Rattle.apd_lines.specs.Lines.{LineFits, LineGrows}

pub Grown-self : (names : List (List ℕ)) → Grown names names
Grown-self names = ([], sym (append-nil names))

pub Grown-same : (a b : List (List ℕ)) → b ≡ a → Grown a b
Grown-same a b same = ([], same ∙ sym (append-nil a))

pub Grown-more : (a b c : List (List ℕ)) → Grown a b → Grown b c → Grown a c
Grown-more a b c first second = (first.0 ++ second.0, second.1 ∙ ap (λ (l : List (List ℕ)). l ++ second.0) first.1 ∙ append_assoc a first.0 second.0)

pub Grown-length : (a b : List (List ℕ)) → Grown a b → length a ≤ length b
Grown-length a b grew = let e : length b ≡ length (a ++ grew.0) = ap length grew.1 in let l = length-append a grew.0 in omega (arith, e, l)

pub grows_to : (m : ℕ) (a b : List (List ℕ)) → GrowsBy m a b → length b ≤ length a + m
grows_to m a b grows = let e : length b ≡ length (a ++ grows.0) = ap length grows.1 in let l = length-append a grows.0 in let s = grows.2 in omega (arith, e, l, s)

pub Grown-line : (line : Line) (a b : List (List ℕ)) → LineGrows line a b → Grown a b
Grown-line TooLong a b grows = ([], grows ∙ sym (append-nil a))
Grown-line (Text bytes) a b grows = (grows.0, grows.1)

-- a line that is heard can be read
pub line_fits : (count : ℕ) (k l : Kept) (x y : Left) (line : Line) → HearsLine k l x y line → count + room_of k < 4000000000 → LineFits count line
line_fits count k l x y TooLong hears room = tt
line_fits count k l x y (Text bytes) hears room = let fits = hears.fits bytes refl in (omega (arith, fits, room), line_short k l x y bytes hears)

-- a line has as many bytes as names that reading it adds
pub few_after : (line : Line) (k l : Kept) (x y : Left) (a b : List (List ℕ)) → HearsLine k l x y line → LineGrows line a b → length b + room_of l ≤ length a + room_of k
few_after TooLong k l x y a b hears grows = let e : length b ≡ length a = ap length grows in let less = hears.goes_on in omega (arith, e, less)
few_after (Text bytes) k l x y a b hears grows = let fits = hears.fits bytes refl in let most = grows_to (length bytes) a b grows in omega (arith, fits, most)
