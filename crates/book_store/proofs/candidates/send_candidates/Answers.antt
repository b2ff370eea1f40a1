-- One key more is at the site.
use Rattle.std.proofs.Common.{◌≡◌, ℕ, List, refl, sym, ◌∙◌, subst}
use Rattle.chem_model.specs.Each.{IsIn}
use Rattle.book_store.specs.Keys.{Key, KeepsKeys}
use Rattle.book_store.proofs.KeyRange.{key_at, key_is, one_more, at_last, none_yet}
use Rattle.book_store.proofs.candidates.send_candidates.Goals as goal

-- places that stay are kept
same_kept : (old new : List Key) → new ≡ old → KeepsKeys old new
same_kept old new e k at = subst (λ (ks : List Key). IsIn k ks) (sym e) at

abbrev SentTo : ℕ → List Key → Key → Type 0
SentTo s keys k = IsIn {X = Key} (s, k.1) keys

pub loop-key-init : goal.loop-key-init
loop-key-init c = (
  λ k at. at,
  refl,
  none_yet (SentTo c.args.to c.args.candidates.now.sites.keys) c.as_slice-key-items.result.now,
)

pub loop-key-preserved : goal.loop-key-preserved
loop-key-preserved c =
    let more = c.in_ok-add_key.ensures in
    let slice = c.as_slice-key-items.result.now in
    let i = c.loop-key.key-index in
    let low = c.loop-key-test.true in (
      λ k at. more.kept k (c.loop-key.invariant.0 k at),
      c.loop-key.invariant.1,
      one_more (SentTo c.args.to c.loop-key.candidates.sites.keys)
          (SentTo c.args.to c.add_key.new.keys.keys) slice i (key_at slice i) low
          (key_is slice i low) (λ k at. more.kept (c.args.to, k.1) at) more.there
          c.loop-key.invariant.2,
    )

pub returns-in_err-moving-clause-kept : goal.returns-in_err-moving-clause-kept
returns-in_err-moving-clause-kept c = record { sites = λ k at. at; places = λ k at. at }

pub returns-in_err-add_key-clause-kept : goal.returns-in_err-add_key-clause-kept
returns-in_err-add_key-clause-kept c = record {
  sites = λ k at. c.in_err-add_key.ensures.kept k (c.loop-key.invariant.0 k at);
  places = same_kept c.args.candidates.now.places.keys c.loop-key.candidates.places.keys
      c.loop-key.invariant.1;
}

pub returns-clause-kept : goal.returns-clause-kept
returns-clause-kept c = record {
  sites = c.loop-key.invariant.0;
  places = same_kept c.args.candidates.now.places.keys c.loop-key.candidates.places.keys
      c.loop-key.invariant.1;
}

pub returns-clause-sent : goal.returns-clause-sent
returns-clause-sent c = λ k at same.
    let there : IsIn k c.args.candidates.now.places.keys =
    subst (λ (ks : List Key). IsIn k ks) c.loop-key.invariant.1 at in
    let moved = c.in_ok-moving.ensures.all k there (same ∙ sym c.place_number.ensures.is) in
    at_last (SentTo c.args.to c.loop-key.candidates.sites.keys) c.as_slice-key-items.result.now
    c.loop-key.key-index c.loop-key-test.false c.loop-key.invariant.2 k
    (subst (λ (ks : List Key). IsIn k ks) (sym c.as_slice-key-items.ensures.value) moved)
