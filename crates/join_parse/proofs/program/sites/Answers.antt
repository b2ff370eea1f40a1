use Rattle.std.proofs.Common.{◌∷◌, [], ◌∙◌, false, sym, arith}
use Rattle.join_parse.specs.Begins.{AName, ASite, Body, Sites}
use Rattle.join_parse.specs.inside.Parsed.{Exactly}
use Rattle.join_parse.proofs.Moves.{exit-before}
use Rattle.join_parse.proofs.Expansions.{sites-more as more_sites, sites-end}
use Rattle.join_parse.proofs.Lists.{sites-more, sites-all, some-push}
use Rattle.join_parse.proofs.program.sites.Goals as goal

pub returns-in_err-more-clause-fails : goal.returns-in_err-more-clause-fails
returns-in_err-more-clause-fails c =
    exit-before c.args.b (Exactly 0)
    c.args.tokens.now c.args.at (ASite ∷ AName ∷ Body false ∷ Sites ∷ []) (Exactly 0)
    c.sites.end (ASite ∷ AName ∷ Body false ∷ []) (λ stack. Sites ∷ stack)
    (λ stack h. c.sites.invariant.reads.runs stack h
    ∙ more_sites c.args.b _ stack (sym c.sites-test.ensures.is))
    (λ stack h. h) c.from_residual-in_err-more.result _
    c.from_residual-in_err-more.ensures.1 c.in_err-more.ensures.fails

pub sites-preserved : goal.sites-preserved
sites-preserved c = rw c.in_ok-push-2.ensures.ok (record {
  reads = record {
    runs = λ stack h. c.sites.invariant.reads.runs stack h
        ∙ more_sites c.args.b _ stack (sym c.sites-test.ensures.is)
        ∙ c.in_ok-more.ensures.reads.runs (Sites ∷ stack) h;
    further = omega (arith, c.sites.invariant.reads.further, c.in_ok-more.ensures.reads.further);
    within = c.in_ok-more.ensures.reads.within;
  };
  listed = sites-more c.args.b.second c.args.tokens.now c.args.at c.sites.end c.in_ok-more.upto
      c.sites.list c.in_ok-more.more c.sites.invariant.listed c.in_ok-more.ensures.spelled;
  some = some-push c.sites.list c.in_ok-more.more;
})

pub returns-clause-reads : goal.returns-clause-reads
returns-clause-reads c = record {
  runs = λ stack h. c.sites.invariant.reads.runs stack h
      ∙ sites-end c.args.b _ stack (sym c.sites-test.ensures.is);
  further = c.sites.invariant.reads.further;
  within = c.sites.invariant.reads.within;
}

pub returns-clause-sites : goal.returns-clause-sites
returns-clause-sites c = (sites-all c.args.b.second c.args.tokens.now c.args.at c.sites.end
    c.sites.list c.sites.invariant.listed).0

pub returns-clause-spelled : goal.returns-clause-spelled
returns-clause-spelled c = (sites-all c.args.b.second c.args.tokens.now c.args.at c.sites.end
    c.sites.list c.sites.invariant.listed).1
