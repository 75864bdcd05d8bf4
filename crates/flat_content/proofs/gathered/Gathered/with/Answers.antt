use Rattle.std.proofs.Common.{rules, ◌≡◌, List, [], ◌∷◌, ◌++◌, ◌∙◌, sym, ap, length, append_assoc, append-nil}
use Rattle.std.proofs.lemmas.Iterator.Adapters.{YieldsList-from_vec}
use Rattle.std.proofs.lemmas.Iterator.Consumers.{YieldsList-end}
use Rattle.std.specs.Vec.Iter.{into_iter_len}
use Rattle.std.proofs.lemmas.List.{map-id}
use Rattle.catalogue.specs.declared.change.Change.{Change}
use Rattle.catalogue.specs.Publication.{content_of}
use Rattle.flat_content.proofs.gathered.Gathered.with.Goals as goal

pub loop-change-init : goal.loop-change-init
loop-change-init c earlier was = was ∙ ap content_of (sym (append-nil earlier))

pub loop-change-preserved : goal.loop-change-preserved
loop-change-preserved c earlier was =
    let seen : List Change = c.loop-change.yielded in
    c.in_ok-gathered.ensures (earlier ++ seen) (c.loop-change.invariant earlier was) ∙ ap content_of (append_assoc earlier seen (c.in-Some.change ∷ []))

pub returns : goal.returns
returns c earlier was =
    let changes = c.args.changes.items in
    let given = c.into_iter-change-iterator.ensures.into_iter_gives in
    let len : into_iter_len c.into_iter-change-iterator.result ≡ length changes = search rules in
    let end = YieldsList-end (YieldsList-from_vec changes given.0 len) c.loop-change.yielded c.loop-change.change-iterator c.loop-change.yielded_by c.next.result c.next.new.self c.in-None.is c.next.ensures.steps in
    let all : c.loop-change.yielded ≡ changes = sym (map-id c.loop-change.yielded) ∙ end.0 in
    c.loop-change.invariant earlier was ∙ ap (λ (changes : List Change). content_of (earlier ++ changes)) all
