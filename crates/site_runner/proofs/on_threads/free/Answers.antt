-- The passes that come back are those of the same workers; so the network may be closed with them,
-- and the report has a row for each.
use Rattle.std.proofs.Common.{◌≡◌, ℕ, List, map, ◌∙◌, subst, arith}
use Rattle.chem_model.specs.ProgramFacts.{ProgramTerms}
use Rattle.shared_net.specs.declared.closing.Closed.{Closed}
use Rattle.shared_net.specs.Agrees.{row_of}
use Rattle.shared_net.specs.Closes.{Closes}
use Rattle.shared_net.specs.Passes.{PassKept}
use Rattle.site_runner.proofs.Carried.{same_length, same_budgets, same_apart, closes_own}
use Rattle.site_runner.proofs.Carried.{closed_is_free}
use Rattle.site_runner.proofs.on_threads.free.Goals as goal

pub close-requires : goal.close-requires
close-requires g c =
    let old = c.args.passes in
    let w : List PassKept = c.work.new.passes in
    let same = c.work.ensures.same in
    let long = same_length old w same in
    record {
      whole = long ∙ c.requires.whole;
      some = omega (arith, long, c.requires.some);
      apart = same_apart old w same c.requires.apart;
      budget = same_budgets c.args.net.budget old w same (rw c.requires.budget c.requires.budgets);
    }

closes_of : (w : List PassKept) (p q : ProgramTerms) (budget most : ℕ) (end : Closed) → p ≡ q
    → budget ≡ most
    → Closes p budget (map row_of w) end → Closes q most (map row_of w) end
closes_of w p q budget most end program is closes =
    subst (λ (b : ℕ). Closes q b (map row_of w) end) is
    (subst (λ (x : ProgramTerms). Closes x budget (map row_of w) end) program closes)

pub after_close-requires : goal.after_close-requires
after_close-requires g c =
    let w : List PassKept = c.work.new.passes in
    let closes = closes_of w c.args.net.program c.args.program.now c.args.net.budget c.args.budget
    c.in-Ok.closed c.requires.program c.requires.budget c.in-Ok.ensures.closed in
    closes_own c.args.program.now c.args.budget (map row_of w) c.in-Ok.closed closes

pub returns-in-Ok-clause-how : goal.returns-in-Ok-clause-how
returns-in-Ok-clause-how g c =
    let w : List PassKept = c.work.new.passes in
    let closes = closes_of w c.args.net.program c.args.program.now c.args.net.budget c.args.budget
    c.in-Ok.closed c.requires.program c.requires.budget c.in-Ok.ensures.closed in
    closed_is_free c.args.net.sites c.args.passes w
    c.args.program.now c.args.budget c.work.ensures.same (c.work.ensures.ended c.if-not-work.false)
    c.in-Ok.closed closes c.after_close.result c.after_close.ensures.how
