use Rattle.std.proofs.Common.{◌≡◌, arith, ap, sym, ◌∙◌}
use Rattle.std.specs.Prelude.{remove}
use Rattle.site_solution.specs.inside.Rising.{rank, Pending}
use Rattle.site_solution.proofs.Ranks.{Rising-without, length-without, remove-at_rank}
use Rattle.site_solution.proofs.Ranks.{rank-below_length}
use Rattle.site_solution.proofs.asked.Asked.remove.Goals as goal

pub remove-requires : goal.remove-requires
remove-requires c =
    let at : c.rank-rank.result ≡ rank c.args.id c.self.inside.items.items =
    c.rank-rank.ensures.rank ∙ ap (λ (p : Pending). rank c.args.id p.items) (sym c.self.view_is) in
    let held = c.self.inside.items.ok in
    let there = rw (← c.self.view_is) at c.requires in
    omega
    (arith, rank-below_length c.args.id c.self.inside.items.items c.self.invariant.rising there)

pub invariant_of-self : goal.invariant_of-self
invariant_of-self c =
    let at : c.rank-rank.result ≡ rank c.args.id c.self.inside.items.items =
    c.rank-rank.ensures.rank ∙ ap (λ (p : Pending). rank c.args.id p.items) (sym c.self.view_is) in
    let there = rw (← c.self.view_is) at c.requires in
    let is = c.remove.ensures.items ∙ ap (λ n. remove c.self.inside.items.items n) at
    ∙ remove-at_rank c.args.id c.self.inside.items.items c.self.invariant.rising there in
    record {
      rising = rw is (Rising-without c.args.id c.self.inside.items.items c.self.invariant.rising);
      few = rw is
          (omega (arith, c.self.invariant.few, length-without c.args.id c.self.inside.items.items));
    }

pub returns : goal.returns
returns c =
    let at : c.rank-rank.result ≡ rank c.args.id c.self.inside.items.items =
    c.rank-rank.ensures.rank ∙ ap (λ (p : Pending). rank c.args.id p.items) (sym c.self.view_is) in
    let there = rw (← c.self.view_is) at c.requires in
    let is = c.remove.ensures.items ∙ ap (λ n. remove c.self.inside.items.items n) at
    ∙ remove-at_rank c.args.id c.self.inside.items.items c.self.invariant.rising there in
    rw (← c.self.view_is) is
