use Rattle.std.proofs.Common.{◌≡◌, ◌∙◌, ℕ, Some, None, true, rules, sym, ap, subst}
use Rattle.requisites.specs.Nodes.{mark_of}
use Rattle.requisites.specs.Sources.{source_of}
use Rattle.supersede.specs.Reach.{has}
use Rattle.verdicts.specs.Indices.{IsAt, id_at}
use Rattle.verdicts.proofs.IndexFacts.{index_is}
use Rattle.zone_plans.proofs.tops.is_known.Goals as goal

pub returns-in-Some-source_at : goal.returns-in-Some-source_at
returns-in-Some-source_at c = λ on.
    let members = c.args.members.now in
    let index = c.in-Some.index in
    let here : IsAt members c.args.id.now index = search rules in
    let marked : mark_of c.args.others.now.marks.items index ≡ true = ap (λ l. mark_of l index) (sym c.deref.ensures.value) ∙ sym c.is_marked.ensures ∙ c.if-not-is_marked.false in
    let some : source_of c.args.others.now.found.items index ≡ Some c.in-Some-source_at.other = ap (λ l. source_of l index) (sym c.deref-2.ensures.value) ∙ sym c.source_at.ensures ∙ c.in-Some-source_at.is in
    record {
      marked = λ p at. record { is = (let P : ℕ → Type 0 = λ k. mark_of c.args.others.now.marks.items k ≡ true in subst P (index_is members c.args.id.now index p c.requires.members here at) marked) };
      other = λ p s at e.
          let P : ℕ → Type 0 = λ k. source_of c.args.others.now.found.items k ≡ Some s in
          let own : source_of c.args.others.now.found.items index ≡ Some s = subst P (sym (index_is members c.args.id.now index p c.requires.members here at)) e in
          let same : c.in-Some-source_at.other ≡ s = cc in
          let Q : ℕ → Type 0 = λ k. has c.args.among.now (id_at members k) ≡ true in
          subst Q same (c.is_index_among.ensures on);
    }

pub returns-in-None : goal.returns-in-None
returns-in-None c = λ on.
    let members = c.args.members.now in
    let index = c.in-Some.index in
    let here : IsAt members c.args.id.now index = search rules in
    let marked : mark_of c.args.others.now.marks.items index ≡ true = ap (λ l. mark_of l index) (sym c.deref.ensures.value) ∙ sym c.is_marked.ensures ∙ c.if-not-is_marked.false in
    let none : source_of c.args.others.now.found.items index ≡ None = ap (λ l. source_of l index) (sym c.deref-2.ensures.value) ∙ sym c.source_at.ensures ∙ c.in-None.is in
    record {
      marked = λ p at. record { is = (let P : ℕ → Type 0 = λ k. mark_of c.args.others.now.marks.items k ≡ true in subst P (index_is members c.args.id.now index p c.requires.members here at) marked) };
      other = λ p s at e.
          let P : ℕ → Type 0 = λ k. source_of c.args.others.now.found.items k ≡ Some s in
          absurd (let own : source_of c.args.others.now.found.items index ≡ Some s = subst P (sym (index_is members c.args.id.now index p c.requires.members here at)) e in cc);
    }
