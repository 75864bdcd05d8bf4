-- Frames: all that a SYSMOD reaches by what may be needed and by what supersedes it. A frame speaks of no zone.
use Rattle.std.specs.Prelude.{◌≡◌, ◌<◌, ◌↔◌, ◌⊎◌, ℕ, Bool, List, Contains, is_some, length, map}
use Rattle.std.specs.List.{list_any}
use Rattle.catalogue.specs.Content.{Content, IsInOrder, Supersedes, record_of}
use Rattle.catalogue.specs.Ids.{in_order, same_id}
use Rattle.catalogue.specs.Touched.{AgreeOutside}
use Rattle.supersede.specs.Giving.{always_needs, conds_of, each_need, fmids_of, givers_of, may_need}
use Rattle.supersede.specs.Leading.{Gives}
use Rattle.requisites.specs.Leads.{Leads}
use Rattle.requisites.specs.Nodes.{row}
use Rattle.verdicts.specs.Indices.{id_at}
use Rattle.chains.specs.declared.frames.FrameNode.{FrameNode}

-- one step leads from an id to each id that it may need, and to each SYSMOD that gives it
abbrev pub StepsTo : Content → List ℕ → List ℕ → Type 0
StepsTo content from to = Contains (may_need content from) to ⊎ Gives content to from

-- an id with what the content says of it
abbrev pub node_of : Content → List ℕ → FrameNode
node_of content id = record {
  id = id;
  catalogued = is_some (record_of content id);
  fmids = fmids_of (record_of content id);
  needs = in_order (always_needs content id);
  conds = conds_of (record_of content id);
  givers = givers_of content id;
}

abbrev pub ids_in : List FrameNode → List (List ℕ)
ids_in nodes = map (λ node. node.id) nodes

-- A frame as contracts see it: its nodes, and for each of them the indices of those that it supersedes directly.
pub record FrameLists : Type 0 where
  pub nodes : List FrameNode
  pub supersedes : List (List ℕ)

-- the frame of an id in a content: it has the nodes of all ids to which steps lead from it
pub record IsFrame (content : Content) (start : List ℕ) (frame : FrameLists) : Type 0 where
  pub reached : (id : List ℕ) → Contains (ids_in frame.nodes) id ↔ Leads (StepsTo content) start id
  pub says : frame.nodes ≡ map (node_of content) (ids_in frame.nodes)
  pub supersedes : (p q : ℕ) → p < length (ids_in frame.nodes) → q < length (ids_in frame.nodes)
      → Contains (row frame.supersedes p) q ↔ Supersedes content (id_at (ids_in frame.nodes) p) (id_at (ids_in frame.nodes) q)

-- each need of a node, the need of each of its requisites under a condition, and each giver of it is a node
pub record IsClosed (nodes : List FrameNode) : Type 0 where
  pub needs : (node : FrameNode) (id : List ℕ) → Contains nodes node → Contains node.needs id → Contains (ids_in nodes) id
  pub conds : (node : FrameNode) (id : List ℕ) → Contains nodes node → Contains (each_need node.conds) id → Contains (ids_in nodes) id
  pub givers : (node : FrameNode) (id : List ℕ) → Contains nodes node → Contains node.givers id → Contains (ids_in nodes) id

-- whether a frame has one of some ids
abbrev pub shares : List (List ℕ) → FrameLists → Bool
shares ids frame = list_any (λ node. list_any (same_id node.id) ids) frame.nodes

-- two lists share no id
abbrev pub AreApart : List (List ℕ) → List (List ℕ) → Type 0
AreApart ids others = (id : List ℕ) → Contains ids id → Contains others id → ⊥

-- if two contents say the same outside some ids, a frame that has none of these is the same in both
abbrev pub FramesStay : Type 0
FramesStay = (ids : List (List ℕ)) (old new : Content) (start : List ℕ) (frame : FrameLists) → IsInOrder old → IsInOrder new
    → AgreeOutside ids old new → AreApart (ids_in frame.nodes) ids → IsFrame old start frame → IsFrame new start frame
