-- How the content of a name changes with the files.
use Rattle.std.proofs.Common.{◌≡◌, ◌≢◌, ℕ, ◌+◌, ◌<◌, List, [], ◌∷◌, ◌++◌, length, take, drop, get_or, set, refl, ap, sym, ◌∙◌, add-one, Bool, true, false, Some, None, slice_get}
use Rattle.std.specs.Str.{bytes_eq}
use Rattle.std.proofs.lemmas.Slice.Eq.{bytes_eq-Decides}
use Rattle.std.proofs.lemmas.List.{take-append-drop, take-set, drop-set, take_more}
use Rattle.std.proofs.lemmas.Option.{slice_get-get_or}
use Rattle.std.proofs.Math.Seq.{drop-cons}
use Rattle.apd_io.specs.declared.mem_files.MemFile.{MemFile}
use Rattle.apd_io.specs.Memory.{content_of, IsPlaceOf}

pub is_same : (xs ys : List ℕ) → xs ≡ ys → bytes_eq xs ys ≡ true
is_same xs ys same = (bytes_eq-Decides xs ys).1 same

is_other-by : (t : Bool) (xs ys : List ℕ) → bytes_eq xs ys ≡ t → xs ≢ ys → bytes_eq xs ys ≡ false
is_other-by true xs ys is other = absurd (other ((bytes_eq-Decides xs ys).0 is))
is_other-by false xs ys is other = is

pub is_other : (xs ys : List ℕ) → xs ≢ ys → bytes_eq xs ys ≡ false
is_other xs ys other = is_other-by _ xs ys refl other

after-by : (t : Bool) (file : MemFile) (files more : List MemFile) (name : List ℕ) → bytes_eq file.name name ≡ t →
    (content_of files name ≡ None → content_of (files ++ more) name ≡ content_of more name) →
    content_of (file ∷ files) name ≡ None → content_of ((file ∷ files) ++ more) name ≡ content_of more name
after-by true file files more name is later none = absurd (let some : Some file.content ≡ None = rw is at none in cc)
after-by false file files more name is later none = rw is (later (rw is at none))

-- where the first files don't have the name, the others decide
pub content_of-after : (files more : List MemFile) (name : List ℕ) → content_of files name ≡ None → content_of (files ++ more) name ≡ content_of more name
content_of-after [] more name none = refl
content_of-after (file ∷ files) more name none = after-by _ file files more name refl (content_of-after files more name) none

other-by : (t : Bool) (file old new : MemFile) (files more : List MemFile) (name : List ℕ) → bytes_eq file.name name ≡ t →
    content_of (files ++ old ∷ more) name ≡ content_of (files ++ new ∷ more) name →
    content_of ((file ∷ files) ++ old ∷ more) name ≡ content_of ((file ∷ files) ++ new ∷ more) name
other-by true file old new files more name is later = rw is refl
other-by false file old new files more name is later = rw is later

-- a file of another name doesn't matter
content_of-other : (old new : MemFile) (files more : List MemFile) (name : List ℕ) → old.name ≢ name → new.name ≢ name →
    content_of (files ++ old ∷ more) name ≡ content_of (files ++ new ∷ more) name
content_of-other old new [] more name a b = rw (is_other old.name name a, is_other new.name name b) refl
content_of-other old new (file ∷ files) more name a b = other-by _ file old new files more name refl (content_of-other old new files more name a b)

added-by : (t : Bool) (file new : MemFile) (files : List MemFile) (name : List ℕ) → bytes_eq file.name name ≡ t →
    content_of (files ++ new ∷ []) name ≡ content_of files name → content_of ((file ∷ files) ++ new ∷ []) name ≡ content_of (file ∷ files) name
added-by true file new files name is later = rw is refl
added-by false file new files name is later = rw is later

-- a new file at the end
pub content_of-added : (new : MemFile) (files : List MemFile) (name : List ℕ) → content_of files name ≡ None → new.name ≡ name → content_of (files ++ new ∷ []) name ≡ Some new.content
content_of-added new files name none named = content_of-after files (new ∷ []) name none ∙ rw (is_same new.name name named) refl

pub content_of-added_other : (new : MemFile) (files : List MemFile) (name : List ℕ) → new.name ≢ name → content_of (files ++ new ∷ []) name ≡ content_of files name
content_of-added_other new [] name other = rw (is_other new.name name other) refl
content_of-added_other new (file ∷ files) name other = added-by _ file new files name refl (content_of-added_other new files name other)

-- a file in another's place
set-parts : (files : List MemFile) (i : ℕ) (new : MemFile) → i < length files → set files i new ≡ take i files ++ new ∷ drop (i + 1) files
set-parts files i new bound = sym (take-append-drop i (set files i new)) ∙ rw (take-set files i new, drop-set files i new bound) refl

old-parts : (files : List MemFile) (i : ℕ) (old : MemFile) → i < length files → old ≡ get_or files i old → files ≡ take i files ++ old ∷ drop (i + 1) files
old-parts files i old bound is =
    let rest : drop i files ≡ get_or files i old ∷ drop (i + 1) files = rw (add-one i) (drop-cons files i old bound) in
    let here : drop i files ≡ old ∷ drop (i + 1) files = rest ∙ ap (λ (f : MemFile). f ∷ drop (i + 1) files) (sym is) in
    sym (take-append-drop i files) ∙ ap (λ (fs : List MemFile). take i files ++ fs) here

named-at : (files : List MemFile) (i : ℕ) (old : MemFile) (name : List ℕ) → IsPlaceOf files name i → old ≡ get_or files i old → old.name ≡ name
named-at files i old name place is =
    let got : slice_get files i ≡ Some old = slice_get-get_or files i old place.bound ∙ ap Some (sym is) in
    rw got at place.named

pub content_of-replaced : (files : List MemFile) (i : ℕ) (old : MemFile) (content name : List ℕ) → IsPlaceOf files name i → old ≡ get_or files i old →
    content_of (set files i record { name = old.name; content = content }) name ≡ Some content
content_of-replaced files i old content name place is =
    let new : MemFile = record { name = old.name; content = content } in
    ap (λ (fs : List MemFile). content_of fs name) (set-parts files i new place.bound)
    ∙ content_of-after (take i files) (new ∷ drop (i + 1) files) name place.first
    ∙ rw (is_same old.name name (named-at files i old name place is)) refl

pub content_of-replaced_other : (files : List MemFile) (i : ℕ) (old : MemFile) (content name other : List ℕ) → IsPlaceOf files name i → old ≡ get_or files i old → other ≢ name →
    content_of (set files i record { name = old.name; content = content }) other ≡ content_of files other
content_of-replaced_other files i old content name other place is differs =
    let new : MemFile = record { name = old.name; content = content } in
    let named : old.name ≡ name = named-at files i old name place is in
    ap (λ (fs : List MemFile). content_of fs other) (set-parts files i new place.bound)
    ∙ content_of-other new old (take i files) (drop (i + 1) files) other (λ e. differs (sym e ∙ named)) (λ e. differs (sym e ∙ named))
    ∙ ap (λ (fs : List MemFile). content_of fs other) (sym (old-parts files i old place.bound is))

-- the search for a name
pub none-more : (files : List MemFile) (i : ℕ) (file : MemFile) (name : List ℕ) → i < length files → content_of (take i files) name ≡ None → file ≡ get_or files i file → bytes_eq file.name name ≡ false →
    content_of (take (i + 1) files) name ≡ None
none-more files i file name bound none is other =
    let more : take (i + 1) files ≡ take i files ++ file ∷ [] = take_more files i file bound ∙ ap (λ (f : MemFile). take i files ++ f ∷ []) (sym is) in
    ap (λ (fs : List MemFile). content_of fs name) more ∙ content_of-after (take i files) (file ∷ []) name none ∙ rw other refl

pub is_place : (files : List MemFile) (i : ℕ) (file : MemFile) (name : List ℕ) → i < length files → content_of (take i files) name ≡ None → file ≡ get_or files i file → bytes_eq file.name name ≡ true → IsPlaceOf files name i
is_place files i file name bound none is same =
    let got : slice_get files i ≡ Some file = slice_get-get_or files i file bound ∙ ap Some (sym is) in
    record { bound = bound; first = none; named = rw got ((bytes_eq-Decides file.name name).0 same) }
