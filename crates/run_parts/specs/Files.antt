-- What is known of the files that a run may read.
use Rattle.std.specs.Prelude.{◌≡◌, ℕ, List, [], ◌∷◌, Option, Some}

-- the facts on the file of a name: nothing is known, as of the system's own files; there is none; or it has these bytes
pub data KnownFile : Type 0 where
  Unknown : KnownFile
  Missing : KnownFile
  Holds : List ℕ → KnownFile

-- a file that is opened is not missing, and if its bytes are known the reader gives them
abbrev pub IsOpened : KnownFile → Option (List ℕ) → Type 0
IsOpened Unknown remaining = Unit {0}
IsOpened Missing remaining = ⊥
IsOpened (Holds bytes) remaining = remaining ≡ Some bytes

-- a file that can't be opened is not known to be there
abbrev pub IsNotOpened : KnownFile → Type 0
IsNotOpened Unknown = Unit {0}
IsNotOpened Missing = Unit {0}
IsNotOpened (Holds bytes) = ⊥

-- these are the bytes of the file, which is there
abbrev pub IsContent : KnownFile → List ℕ → Type 0
IsContent Unknown bytes = Unit {0}
IsContent Missing bytes = ⊥
IsContent (Holds known) bytes = bytes ≡ known

-- the bytes of the file of each of these names, in their order, and of no other
abbrev pub AreContents : (List ℕ → KnownFile) → List (List ℕ) → List (List ℕ) → Type 0
AreContents files [] [] = Unit {0}
AreContents files [] (bytes ∷ more) = ⊥
AreContents files (name ∷ names) [] = ⊥
AreContents files (name ∷ names) (bytes ∷ more) = IsContent (files name) bytes × AreContents files names more
