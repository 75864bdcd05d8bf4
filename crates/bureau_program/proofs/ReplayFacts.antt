-- What a writer gets of texts that are written one after the other, and why nothing is written.
use Rattle.std.proofs.Common.{◌≡◌, inl, inr, refl, ℕ, ◌+◌, ◌<◌, List, [], ◌∷◌, ◌++◌, length, map, take, drop, get_or, Option, sym, ap, ◌∙◌, subst, append-nil, append_assoc, take-append-drop}
use Rattle.std.proofs.KnownBytes.{Appends-trans}
use Rattle.std.proofs.lemmas.Grind.{flat_map-append}
use Rattle.std.proofs.lemmas.List.{map-append, take_more}
use Rattle.std.specs.Io.KnownBytes.{Appends}
use Rattle.transfer.specs.Transfer.{AppendsFront}
use Rattle.transfer.proofs.FrontFacts.{front_first, front_second}
use Rattle.faults.specs.declared.any.AnyFault.{AnyFault}
use Rattle.bureau_store.specs.declared.fault.StoreFault.{StoreFault}
use Rattle.bureau_store.specs.declared.fault.StoreFault.TheVariants.{Device, Memory, Shape, Size, Version}
use Rattle.bureau_sql.specs.Founded.{IsNotMade}
use Rattle.bureau_http.specs.ConnFault.{run_told}
use Rattle.bureau_http.specs.declared.fault.RunFault.{RunFault}
use Rattle.bureau_http.specs.declared.fault.RunFault.TheVariants as run
use Rattle.store_runs.specs.Desk.{of_store}
use Rattle.sql_texts.specs.Schema.{made}
use Rattle.sqlite_catalog.proofs.ReadLemmas.{lists_once}
use Rattle.sqlite_disk.specs.declared.Disk as disk
use Rattle.sqlite_disk.specs.declared.Files.{Files}
use Rattle.sqlite_store.specs.declared.store.FileStore.{FileStore}
use Rattle.sqlite_trees.specs.Objects.{catalog_tree}
use Rattle.sqlite.specs.Files.{Finds, IsOpened, file_state, image_of}
use Rattle.sqlite.specs.Held.{Held}
use Rattle.sqlite.specs.State.{HasCleanDisk, State}
use Rattle.bureau_program.specs.Replay.{IsNewDatabase, IsNotServed, joined}
use Rattle.store_runs.proofs.LeftFacts.{found_nothing}

joined_on : (before more : List (List ℕ)) → joined (before ++ more) ≡ joined before ++ joined more
joined_on before more = flat_map-append (λ text. text) before more

module _ {V : Type 0} (f : V → List ℕ) (texts : List V) (i : ℕ) (item : V) (low : i < length texts) (is : item ≡ get_or texts i item) where
  one_on : map f (take (i + 1) texts) ≡ map f (take i texts) ++ f item ∷ []
  one_on =
      ap (map f) (take_more texts i item low) ∙ map-append f (take i texts) (get_or texts i item ∷ [])
      ∙ ap (λ v. map f (take i texts) ++ f v ∷ []) (sym is)

  -- one text more was written
  pub one_more : (old mid new : Option (List ℕ)) → Appends old mid (joined (map f (take i texts))) → Appends mid new (f item)
      → Appends old new (joined (map f (take (i + 1) texts)))
  one_more old mid new before now =
      let joins : joined (map f (take (i + 1) texts)) ≡ joined (map f (take i texts)) ++ f item =
      ap joined one_on ∙ joined_on (map f (take i texts)) (f item ∷ []) ∙ ap (λ l. joined (map f (take i texts)) ++ l) (append-nil (f item)) in
      subst (Appends old new) (sym joins) (Appends-trans old mid new (joined (map f (take i texts))) (f item) before now)

  -- of this text a front was written
  pub cut : (old mid new : Option (List ℕ)) → Appends old mid (joined (map f (take i texts))) → AppendsFront mid new (f item)
      → AppendsFront old new (joined (map f texts))
  cut old mid new before front =
      let rest = map f (drop (i + 1) texts) in
      let all : map f texts ≡ map f (take i texts) ++ (f item ∷ rest) =
      ap (map f) (sym (take-append-drop (i + 1) texts)) ∙ map-append f (take (i + 1) texts) (drop (i + 1) texts)
      ∙ ap (λ l. l ++ rest) one_on ∙ append_assoc (map f (take i texts)) (f item ∷ []) rest in
      let joins : joined (map f texts) ≡ joined (map f (take i texts)) ++ (f item ++ joined rest) =
      ap joined all ∙ joined_on (map f (take i texts)) (f item ∷ rest) in
      subst (AppendsFront old new) (sym joins) (front_second old mid new (joined (map f (take i texts))) (f item ++ joined rest) before (front_first mid new (f item) (joined rest) front))

-- a connection over new files has no tables
pub new_database : {D : Type 0} {g : disk.Ghosts D} (files : Files D) (conn : Held (FileStore D g)) → g.seen files.db ≡ []
    → (HasCleanDisk (file_state conn) → IsOpened conn) → (HasCleanDisk (file_state conn) → Finds files conn) → IsNewDatabase (file_state conn)
new_database {g = g} files conn empty opened found clean =
    let database = (file_state conn).committed in
    let is_open = (opened clean).0.is_open in
    let none = found_nothing (image_of g files) database.trees (inl (inl (ap length empty))) (found clean).reads in
    (is_open, lists_once (database.trees catalog_tree) database.schema (made 0 0) ((opened clean).1 is_open).1.lists none.lists)

-- no store was made in it, which isn't for its tables
pub not_made : (at : State) (refused : StoreFault) (fault : AnyFault) → HasCleanDisk at → IsNewDatabase at → IsNotMade at refused → fault ≡ of_store refused → IsNotServed fault
not_made at Shape fault clean new why is = absurd ((why.taken (new clean).0).0 refl (new clean).1)
not_made at Version fault clean new why is = absurd (why.other (λ same. absurd cc))
not_made at Memory fault clean new why is = inl (Memory, tt, is)
not_made at Device fault clean new why is = inl (Device, tt, is)
not_made at Size fault clean new why is = inl (Size, tt, is)

-- there was no memory for it
pub no_database : (refused : StoreFault) (fault : AnyFault) → refused ≡ Memory → fault ≡ of_store refused → IsNotServed fault
no_database refused fault short is = inl (Memory, tt, is ∙ ap of_store short)

-- the device of the store has failed
pub device_not_served : (fault : AnyFault) → fault ≡ of_store Device → IsNotServed fault
device_not_served fault is = inl (Device, tt, is)

-- memory ran out as connections were served
pub memory_not_served : (refused : RunFault) (fault : AnyFault) → fault ≡ run_told refused → IsNotServed fault
memory_not_served run.Memory fault is = inr (inr is)
