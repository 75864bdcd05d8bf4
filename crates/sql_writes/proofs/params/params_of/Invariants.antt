use Rattle.std.proofs.Common.{◌≡◌, ◌+◌, ◌*◌, ◌++◌, length, take}
use Rattle.std.specs.Prelude.{flat_map}
use Rattle.std.specs.List.{AllByRecursion}
use Rattle.sqlite.specs.Values.{bound}
use Rattle.sql_writes.proofs.params.params_of.Given as goal

-- the key is bound, and so many things
abbrev pub invariant-loop-item : goal.invariant-loop-item
invariant-loop-item g l = record {
  long : length l.params ≡ 40;
  next : l.next ≡ g.K.Key.parameters + g.T.Several.own * l.item-index;
  placed : bound (take l.next l.params) ≡ g.K.Key.values l.key ++ flat_map g.T.Several.values_of (take l.item-index l.items);
  key : g.K.Key.is_fit l.key;
  fit : AllByRecursion g.T.Several.is_fit (take l.item-index l.items);
}
