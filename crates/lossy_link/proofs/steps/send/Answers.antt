use Rattle.std.proofs.Common.{ℕ, List, None, subst, sym}
use Rattle.std.proofs.lemmas.Result.{on_ok_weaker}
use Rattle.lossy_link.specs.declared.step.Step.TheVariants.{Send}
use Rattle.lossy_link.specs.Links.{IsOpen}
use Rattle.lossy_link.specs.Whole.{links_of}
use Rattle.lossy_link.proofs.Keeping.{step_leads, whole_after}
use Rattle.lossy_link.proofs.Making.{sent, carries_sent}
use Rattle.lossy_link.proofs.steps.send.Goals as goal

pub put-requires : goal.put-requires
put-requires c = carries_sent c.args.parts.now.lines c.args.from c.args.into c.args.number
    c.in-Some.found.now c.in_ok-bytes.bytes c.requires.whole.spelled c.in-Some.ensures.some
    c.in_ok-bytes.ensures

pub returns-clause-steps : goal.returns-clause-steps
returns-clause-steps c =
    let copied = subst (λ (bs : List ℕ).
    IsOpen c.args.parts.now.lines c.args.from c.args.into c.args.number bs)
    (sym c.in_ok-bytes.ensures) c.in-Some.ensures.some in
    on_ok_weaker c.put.result (λ is. sent (links_of c.args.parts.now) c.put.new.self
    c.args.from c.args.into c.args.number c.in_ok-bytes.bytes copied is) c.put.ensures

pub returns-clause-whole : goal.returns-clause-whole
returns-clause-whole c = on_ok_weaker c.put.result
    (λ steps. whole_after (links_of c.args.parts.now) _
    (Send c.args.from c.args.into c.args.number) None c.requires.whole steps)
    (returns-clause-steps c)

pub returns-clause-leads : goal.returns-clause-leads
returns-clause-leads c = on_ok_weaker c.put.result
    (λ steps. step_leads (links_of c.args.parts.now) _
    (Send c.args.from c.args.into c.args.number) None c.requires.whole steps)
    (returns-clause-steps c)
