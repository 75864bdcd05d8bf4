-- The published content in lists.
use Rattle.std.specs.Prelude.{◌≡◌, ℕ, List, [], filter, Option, Some, None, refl}
use Rattle.std.proofs.Common.{◌∙◌, arith, subst, sym}
use Rattle.std.specs.BTreeMap.{BTreeMap, get}
use Rattle.std.specs.Global.{Vec}
use Rattle.std.specs.Map.{keys_of, values_of}
use Rattle.catalogue.specs.declared.sysmod.Sysmod.{Sysmod}
use Rattle.catalogue.specs.Content.{Content, IsInOrder, ids_in, sup_names}
use Rattle.catalogue.specs.Ids.{id_cmp}
use Rattle.catalogue.specs.View.{IsLawful, IsOpen, View}

-- Lists always hold what was published, and never fail. They hold it in order, and a stop may leave just that.
abbrev pub lists_view : View Content Content
lists_view = record {
  stands = λ content this. content ≡ this;
  is_clean = λ content. Unit {0};
  is_ours = IsInOrder;
  failures = λ content. 0;
  may_leave = λ content this. this ≡ content;
  keeps = λ old new. new ≡ old;
}

pub lists_lawful : IsLawful lists_view
lists_lawful = record {
  keeps = λ old new same. record {
    goes = record { clean = λ h. h; ours = λ h _. rw same h; failures_rise = omega arith };
    stays = λ ours clean this stands. same ∙ stands;
    leaves = λ ours clean this left. left ∙ same;
  };
  itself = λ content. refl;
  on = λ first second third a b. b ∙ a;
  one = λ content is_open this other first second. sym first ∙ second;
}

pub lists_in_order : (content this : Content) → IsInOrder content → IsOpen lists_view content → content ≡ this → IsInOrder this
lists_in_order content this ordered is_open is = subst IsInOrder is ordered

-- ---- No part of what is promised: how the lists are kept.

-- a map has each record under its own id
abbrev pub IsKeyed : List (List ℕ × Sysmod) → Type 0
IsKeyed entries = ids_in (values_of entries) ≡ keys_of entries

-- the ids listed under an id
abbrev pub listed : Option (Vec (List ℕ)) → List (List ℕ)
listed None = []
listed (Some ids) = ids.items

-- each id has those of the records whose SUP names it, in their order
abbrev pub IsIndex : BTreeMap (List ℕ) (Vec (List ℕ)) → List Sysmod → Type 0
IsIndex index sysmods = (id : List ℕ) → listed (get id_cmp index id) ≡ ids_in (filter (sup_names id) sysmods)
