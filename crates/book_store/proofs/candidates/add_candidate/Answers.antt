use Rattle.std.proofs.Common.{ℕ, subst}
use Rattle.std.proofs.lemmas.Result.{on_ok_weaker}
use Rattle.chem_model.specs.Each.{IsIn}
use Rattle.book_store.specs.Keys.{Key}
use Rattle.book_store.proofs.candidates.add_candidate.Goals as goal

pub returns-in_err-add_key-clause-kept : goal.returns-in_err-add_key-clause-kept
returns-in_err-add_key-clause-kept c = record {
  sites = λ k at. at;
  places = c.in_err-add_key.ensures.kept;
}

pub returns-clause-at_place : goal.returns-clause-at_place
returns-clause-at_place c =
    let keys = c.add_key.new.keys.keys in
    on_ok_weaker c.add_key-2.result
    (λ at. subst (λ (n : ℕ). IsIn {X = Key} (n, c.args.id) keys) c.place_number.ensures.is
    c.in_ok-add_key.ensures.there) c.add_key-2.ensures.there

pub returns-clause-kept : goal.returns-clause-kept
returns-clause-kept c = record {
  sites = c.add_key-2.ensures.kept;
  places = c.in_ok-add_key.ensures.kept;
}
