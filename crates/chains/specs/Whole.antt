-- A judge that keeps nothing.
use Rattle.catalogue.specs.Content.{Content}
use Rattle.chains.specs.declared.whole.Whole.{Whole}

-- it is right for every content
abbrev pub IsRightFor : Whole → Content → Type 0
IsRightFor whole content = Unit {0}
