-- A rule that has a channel without older messages is filed there.
use Rattle.std.proofs.Common.{refl, inl, inr, subst}
use Rattle.std.proofs.lemmas.Result.{on_ok_weaker}
use Rattle.chem_model.specs.declared.name.Loc.{Loc}
use Rattle.chem_model.specs.Each.{IsIn}
use Rattle.book_store.specs.Keys.{Key}
use Rattle.book_store.proofs.Watching.{both_ok}
use Rattle.book_store.proofs.waiting.watch.Goals as goal

pub returns-in-Some-clause-watched : goal.returns-in-Some-clause-watched
returns-in-Some-clause-watched c = on_ok_weaker c.add_key.result (λ at. inl (record {
  channel = c.in-Some.number;
  is = c.in-Some.ensures;
  at = at;
})) c.add_key.ensures.there

pub returns-in-Some-clause-kept : goal.returns-in-Some-clause-kept
returns-in-Some-clause-kept c = record {
  noted = refl;
  filed = c.add_key.ensures.kept;
  ready = record { sites = λ k at. at; places = λ k at. at };
}

pub returns-in-None-clause-watched : goal.returns-in-None-clause-watched
returns-in-None-clause-watched c =
    let sites = c.add_candidate.new.candidates.sites.keys in
    both_ok c.add_candidate.result (λ site place. inr (inl (record {
      at_site = subst (λ (l : Loc).
          IsIn {X = Key} (l.site, (c.args.rule.now.id.site, c.args.rule.now.id.k)) sites)
          c.root_of-site.ensures site;
      at_place = place;
    }))) c.add_candidate.ensures.at_site c.add_candidate.ensures.at_place

pub returns-in-None-clause-kept : goal.returns-in-None-clause-kept
returns-in-None-clause-kept c = record {
  noted = refl;
  filed = λ k at. at;
  ready = c.add_candidate.ensures.kept;
}
