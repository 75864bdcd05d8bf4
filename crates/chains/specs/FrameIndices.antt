-- No part of what is promised: private contracts cite it. The parts of a frame by the indices of its nodes.
use Rattle.std.specs.Prelude.{◌≡◌, ◌↔◌, ◌++◌, ◌==◌, ℕ, Bool, List, Contains, length, map, not, slice_index_or, take}
use Rattle.std.specs.List.{list_any}
use Rattle.zone_lists.specs.declared.zones.ZoneRow.{ZoneRow}
use Rattle.catalogue.specs.Content.{Content, IsInOrder}
use Rattle.catalogue.specs.Ids.{Ascend, in_order}
use Rattle.supersede.specs.Giving.{needs_where}
use Rattle.verdicts.specs.Indices.{id_at, AreIndexed}
use Rattle.chains.specs.Frames.{IsClosed, ids_in, node_of}
use Rattle.listings.specs.Gathered.{IsGathered}
use Rattle.listings.specs.Links.{IsGiverAt}
use Rattle.chains.specs.declared.frames.FrameNode.{FrameNode}
use Rattle.listings.specs.declared.gathered.Gathered.{Gathered}

-- whether a node has requisites under a condition
abbrev pub has_conds : FrameNode → Bool
has_conds node = not (length node.conds == 0)

-- the needs of a node in a zone
abbrev pub node_needs : List ZoneRow → FrameNode → List (List ℕ)
node_needs rows node = node.needs ++ needs_where rows node.conds

-- a frame's parts: its nodes, which ascend and name no others; their ids; by index the needs of each in every zone; and
-- whether one of them has requisites under a condition
pub record IsFramed (nodes : List FrameNode) (ids : List (List ℕ)) (needs : List (List ℕ)) (conditional : Bool) : Type 0 where
  pub are : ids ≡ ids_in nodes
  pub ascend : Ascend ids
  pub closed : IsClosed nodes
  pub indexed : AreIndexed ids (map (λ node. node.needs) nodes) needs
  pub known : conditional ≡ list_any has_conds nodes

-- the node of the id at an index
pub record IsNodeAt (ids : List (List ℕ)) (all : List Gathered) (above : List (List ℕ)) (index : ℕ) (node : FrameNode) : Type 0 where
  pub gathered : Gathered
  pub at : gathered ≡ slice_index_or all index gathered
  pub id : node.id ≡ id_at ids index
  pub catalogued : node.catalogued ≡ gathered.entry.catalogued
  pub fmids : node.fmids ≡ gathered.entry.fmids
  pub needs : node.needs ≡ in_order gathered.entry.needs
  pub conds : node.conds ≡ gathered.entry.conds
  pub ascend : Ascend node.givers
  pub givers : (giver : List ℕ) → Contains node.givers giver ↔ IsGiverAt ids all above index giver

-- the nodes of the ids up to an index
pub record AreNodesOf (ids : List (List ℕ)) (all : List Gathered) (index : ℕ) (nodes : List FrameNode) : Type 0 where
  pub are : map (λ node. node.id) nodes ≡ take index ids
  pub needs : map (λ node. node.needs) nodes ≡ map (λ g. in_order g.entry.needs) (take index all)
  pub conds : map (λ node. node.conds) nodes ≡ map (λ g. g.entry.conds) (take index all)
  pub givers : (node : FrameNode) (id : List ℕ) → Contains nodes node → Contains node.givers id → Contains ids id
  pub say : (content : Content) (start : List ℕ) → IsInOrder content → IsGathered content start ids all → nodes ≡ map (node_of content) (take index ids)
