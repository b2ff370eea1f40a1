use Rattle.chem_model.proofs.numbered.NumberedRule.copy.Goals as goal

pub returns : goal.returns
returns c = λ i. record {
  id = c.args.self.now.id;
  loc = c.args.self.now.loc;
  pats = c.in_ok-pats.ensures i;
  body = c.in_ok-body.ensures i;
}
