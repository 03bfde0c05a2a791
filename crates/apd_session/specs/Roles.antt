-- The files that a session loads, each by its role.
use Rattle.std.specs.Prelude.{ℕ, ◌≡◌, List, Option, None, Some, IfSome, ⊤}
use Rattle.apd_words.specs.Words.{InFile, OfLog, OfTree, Options, Subject}

-- what a file is to a session: its program, what is known before the first line, replies and trust, the program that is asked before
-- the user, or a log that is checked
pub data Role : Type 0 where
  Program : Role
  KnownReplies : Role
  Reference : Role
  Log : Role

-- the name of the file that is debugged; a tree has none
abbrev pub file_of_subject : Subject → Option (List ℕ)
file_of_subject (InFile name) = Some name
file_of_subject (OfTree nodes) = None
file_of_subject (OfLog program log) = Some program

-- the name of the log's file, where one is checked
abbrev pub log_of_subject : Subject → Option (List ℕ)
log_of_subject (InFile name) = None
log_of_subject (OfTree nodes) = None
log_of_subject (OfLog program log) = Some log

-- the name of the file of this role, where the words give one
abbrev pub file_of : Options → Role → Option (List ℕ)
file_of options Program = file_of_subject options.subject
file_of options KnownReplies = options.oracle
file_of options Reference = options.reference
file_of options Log = log_of_subject options.subject

-- what a load gives: the bytes of a file, or a fault
pub data FileLoad : Type 0 where
  Gives : List ℕ → FileLoad
  Faults : FileLoad

-- where a content is known, this is what a load of it gives
abbrev pub IsFileLoad : Option (List ℕ) → FileLoad → Type 0
IsFileLoad None loading = ⊤
IsFileLoad (Some known) (Gives bytes) = bytes ≡ known
IsFileLoad (Some known) Faults = ⊤

-- where a file is named, this is what a load of it gives
abbrev pub IsNamedLoad : (List ℕ → Option (List ℕ)) → Option (List ℕ) → FileLoad → Type 0
IsNamedLoad content name loading = IfSome name (λ file. IsFileLoad (content file) loading)

-- by the options, where there are some: of each file that they name, this is what a load of it gives
abbrev pub AreLoads : (List ℕ → Option (List ℕ)) → Option Options → (Role → FileLoad) → Type 0
AreLoads content options files = IfSome options (λ o. (role : Role) → IsNamedLoad content (file_of o role) (files role))

-- by the options, where there are some: of each file that they name, this is the content
abbrev pub AreTexts : (List ℕ → Option (List ℕ)) → Option Options → (Role → List ℕ) → Type 0
AreTexts content options texts =
    IfSome options (λ o. (role : Role) → IfSome (file_of o role) (λ name. content name ≡ Some (texts role)))
