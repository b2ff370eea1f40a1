-- Each rule that was noted stays watched.
use Rattle.std.proofs.Common.{◌≡◌, ℕ, ◌+◌, ◌<◌, ◌≤◌, List, [], ◌∷◌, Bool, true, false, cond, length}
use Rattle.std.proofs.Common.{get_or, arith, refl, ap, sym, ◌∙◌, subst, ◌⊎◌, inl, inr, eqb, ◌≢◌}
use Rattle.std.specs.Prelude.{Some, None, Result, Ok, Err, OnOk}
use Rattle.std.proofs.lemmas.Bool.Decides.{eqb_tells}
use Rattle.std.proofs.lemmas.List.{get_or_default}
use Rattle.std.proofs.lemmas.Option.{same_Some}
use Rattle.chem_model.specs.declared.name.Loc.{Loc}
use Rattle.chem_model.specs.declared.event.RuleId.{RuleId}
use Rattle.chem_model.specs.declared.numbered.NumberedRule.{NumberedRule}
use Rattle.chem_model.specs.Each.{IsIn}
use Rattle.chem_model.specs.Solution.{Places, root}
use Rattle.chem_model.specs.Apply.{same_rule, rule_at}
use Rattle.book_store.specs.Keys.{Key, KeepsKeys, HasAll, HasOnly, place_number}
use Rattle.book_store.specs.Candidates.{KeepsCandidates}
use Rattle.book_store.specs.Watched.{IsAt, rule_pair, no_number, IsWatched, AreWatched, IsWatchedAt}
use Rattle.book_store.specs.Watched.{KeepsWaiting}
use Rattle.book_store.specs.declared.waiting.Waiting.{Waiting}
use Rattle.chem_commit.specs.inside.Differ.{RulesDiffer}
use Rattle.book_store.proofs.ByNumber.{rule_member_found}
use Rattle.book_store.proofs.Members.{at_in}

pub both_ok : {T E P Q R : Type 0} (r : Result T E) → (P → Q → R) → OnOk r P → OnOk r Q → OnOk r R
both_ok (Ok x) f p q = f p q
both_ok (Err e) f p q = tt

-- ---- rules by number

abbrev pub id_of : Key → RuleId
id_of k = record { site = k.1.0; k = k.1.1 }

pub rule_in : (rules : List NumberedRule) (i : RuleId) (r : NumberedRule) → rule_at rules i ≡ Some r
    → IsIn r rules
rule_in [] i r e = cc
rule_in (q ∷ rules) i r e = go (same_rule q.id i) (rule_in rules i r) e
  where
    go : (t : Bool) → (rule_at rules i ≡ Some r → IsIn r rules)
        → cond t (Some q) (rule_at rules i) ≡ Some r → IsIn r (q ∷ rules)
    go true ih f = let same : q ≡ r = cc in inl (sym same)
    go false ih f = inr (ih f)

module _ (rules : List NumberedRule) (differ : RulesDiffer rules) where
  by_pair : (p : ℕ × ℕ) (r : NumberedRule) → IsIn r rules → rule_pair r.id ≡ p
      → rule_at rules (record { site = p.0; k = p.1 }) ≡ Some r
  by_pair p r there e =
      sym (ap (λ (q : ℕ × ℕ). rule_at rules (record { site = q.0; k = q.1 })) e)
      ∙ rule_member_found rules differ r there

  same_rule_by : (r q : NumberedRule) → IsIn r rules → IsIn q rules
      → rule_pair r.id ≡ rule_pair q.id → q ≡ r
  same_rule_by r q at there e = same_Some q r
      (sym (by_pair (rule_pair q.id) q there refl) ∙ by_pair (rule_pair q.id) r at e)

-- ---- nothing is lost

pub still : (but : ℕ) (pl : Places) (keys : List Key) (old new : Waiting) (r : NumberedRule)
    → KeepsKeys old.filed.keys new.filed.keys → KeepsCandidates old.ready new.ready
    → IsWatched but pl keys old r → IsWatched but pl keys new r
still but pl keys old new r filed ready (inl f) = inl (record {
  channel = f.channel;
  is = f.is;
  at = filed (f.channel, rule_pair r.id) f.at;
})
still but pl keys old new r filed ready (inr (inl c)) = inr (inl (record {
  at_site = ready.sites ((root pl r.loc).site, rule_pair r.id) c.at_site;
  at_place = ready.places (place_number r.loc, rule_pair r.id) c.at_place;
}))
still but pl keys old new r filed ready (inr (inr d)) = inr (inr d)

pub all_still : (but : ℕ) (pl : Places) (keys : List Key) (old new : Waiting)
    (rules : List NumberedRule) → KeepsWaiting old new → AreWatched but pl keys old rules
    → AreWatched but pl keys new rules
all_still but pl keys old new rules h w = record {
  within = subst (λ (n : ℕ). n ≤ length rules) (sym h.noted) w.within;
  each = λ j r low at. still but pl keys old new r h.filed h.ready
      (w.each j r (subst (λ (n : ℕ). j < n) h.noted low) at);
}

pub keeps_both : (old mid new : Waiting) → KeepsWaiting old mid → KeepsWaiting mid new
    → KeepsWaiting old new
keeps_both old mid new f g = record {
  noted = g.noted ∙ f.noted;
  filed = λ k at. g.filed k (f.filed k at);
  ready = record {
    sites = λ k at. g.ready.sites k (f.ready.sites k at);
    places = λ k at. g.ready.places k (f.ready.places k at);
  };
}

pub keeps_all : (w : Waiting) → KeepsWaiting w w
keeps_all w = record {
  noted = refl;
  filed = λ k at. at;
  ready = record { sites = λ k at. at; places = λ k at. at };
}

-- a rule that is watched but at one channel is watched
pub any_channel : (but : ℕ) (pl : Places) (keys : List Key) (w : Waiting) (r : NumberedRule)
    → IsWatched but pl keys w r → IsWatched no_number pl keys w r
any_channel but pl keys w r (inl f) =
    let b = f.is in
    let low = b.low in
    inl (record {
      channel = f.channel;
      is = record {
        pat = b.pat;
        within = b.within;
        number = b.number;
        bare = b.bare;
        low = b.low;
        other = λ e. omega (arith, e, low);
      };
      at = f.at;
    })
any_channel but pl keys w r (inr h) = inr h

pub any_channels : (but : ℕ) (pl : Places) (keys : List Key) (w : Waiting)
    (rules : List NumberedRule) → AreWatched but pl keys w rules
    → AreWatched no_number pl keys w rules
any_channels but pl keys w rules h = record {
  within = h.within;
  each = λ j r low at. any_channel but pl keys w r (h.each j r low at);
}

-- ---- one rule more is noted

pub one_noted : (but : ℕ) (pl : Places) (keys : List Key) (old mid new : Waiting)
    (rules slice : List NumberedRule) (r : NumberedRule) → slice ≡ rules → KeepsWaiting old mid
    → new.noted ≡ old.noted + 1 → KeepsKeys mid.filed.keys new.filed.keys
    → KeepsCandidates mid.ready new.ready → old.noted < length slice
    → r ≡ get_or slice old.noted r → IsWatched but pl keys mid r → AreWatched but pl keys old rules
    → AreWatched but pl keys new rules
one_noted but pl keys old mid new rules slice r is kept noted filed ready low e one w = record {
  within = let here = subst (λ (l : List NumberedRule). old.noted < length l) is low in
      omega (arith, here, noted);
  each = λ j q small at. go j q small at (eqb_tells j old.noted);
}
  where
    go : (j : ℕ) (q : NumberedRule) → j < new.noted → IsAt rules j q
        → ((eqb j old.noted ≡ true) × (j ≡ old.noted))
        ⊎ ((eqb j old.noted ≡ false) × (j ≢ old.noted)) → IsWatched but pl keys new q
    go j q small at (inl same) =
        let there : r ≡ get_or rules old.noted r =
        subst (λ (l : List NumberedRule). r ≡ get_or l old.noted r) is e in
        let it : r ≡ q =
        there ∙ ap (λ (k : ℕ). get_or rules k r) (sym same.1)
        ∙ get_or_default rules j r q at.0 ∙ sym at.1 in
        still but pl keys mid new q filed ready
        (subst (λ (x : NumberedRule). IsWatched but pl keys mid x) it one)
    go j q small at (inr other) =
        let apart : j ≢ old.noted = other.1 in
        let before : j < old.noted = omega (arith, small, noted, apart) in
        still but pl keys mid new q filed ready
        (still but pl keys old mid q kept.filed kept.ready (w.each j q before at))

-- ---- a channel is freed

-- of the keys that were looked at the rules are watched, but at the channel
pub record Freed (c : ℕ) (pl : Places) (keys : List Key) (rules : List NumberedRule)
    (old now : Waiting) (seen : List Key) : Type 0 where
  pub kept : KeepsWaiting old now
  pub done : (k : Key) → IsIn k seen → IsWatchedAt c pl keys now rules (id_of k)

pub still_at : (but : ℕ) (pl : Places) (keys : List Key) (old new : Waiting)
    (rules : List NumberedRule) (i : RuleId) → KeepsWaiting old new
    → IsWatchedAt but pl keys old rules i → IsWatchedAt but pl keys new rules i
still_at but pl keys old new rules i h w r e =
    still but pl keys old new r h.filed h.ready (w r e)

module _ (c : ℕ) (pl : Places) (keys : List Key) (rules : List NumberedRule)
    (differ : RulesDiffer rules) (old mid new : Waiting) (list : List Key)
    (w : AreWatched no_number pl keys old rules) (all : HasAll c old.filed.keys list)
    (only : HasOnly c list) (kept : KeepsWaiting old mid)
    (done : (k : Key) → IsIn k list → IsWatchedAt c pl keys mid rules (id_of k))
    (noted : new.noted ≡ mid.noted) (ready : KeepsCandidates mid.ready new.ready)
    (gone : (k : Key) → IsIn k mid.filed.keys → IsIn k list ⊎ IsIn k new.filed.keys) where
  -- the keys of the channel are those of no rule
  forgotten : (r : NumberedRule) → IsWatched c pl keys mid r → IsWatched c pl keys new r
  forgotten r (inl f) = go (gone (f.channel, rule_pair r.id) f.at)
    where
      go : IsIn {X = Key} (f.channel, rule_pair r.id) list
          ⊎ IsIn {X = Key} (f.channel, rule_pair r.id) new.filed.keys
          → IsWatched c pl keys new r
      go (inl there) = absurd (f.is.other (only (f.channel, rule_pair r.id) there))
      go (inr there) = inl (record { channel = f.channel; is = f.is; at = there })
  forgotten r (inr (inl d)) = inr (inl (record {
    at_site = ready.sites ((root pl r.loc).site, rule_pair r.id) d.at_site;
    at_place = ready.places (place_number r.loc, rule_pair r.id) d.at_place;
  }))
  forgotten r (inr (inr d)) = inr (inr d)

  elsewhere : (r : NumberedRule) → IsIn r rules → IsWatched no_number pl keys old r
      → IsWatched c pl keys mid r
  elsewhere r there (inl f) = go (eqb_tells f.channel c)
    where
      go : ((eqb f.channel c ≡ true) × (f.channel ≡ c))
          ⊎ ((eqb f.channel c ≡ false) × (f.channel ≢ c)) → IsWatched c pl keys mid r
      go (inl same) = done (f.channel, rule_pair r.id)
          (all (f.channel, rule_pair r.id) f.at same.1) r (rule_member_found rules differ r there)
      go (inr other) = inl (record {
        channel = f.channel;
        is = record {
          pat = f.is.pat;
          within = f.is.within;
          number = f.is.number;
          bare = f.is.bare;
          low = f.is.low;
          other = other.1;
        };
        at = kept.filed (f.channel, rule_pair r.id) f.at;
      })
  elsewhere r there (inr (inl d)) = inr (inl (record {
    at_site = kept.ready.sites ((root pl r.loc).site, rule_pair r.id) d.at_site;
    at_place = kept.ready.places (place_number r.loc, rule_pair r.id) d.at_place;
  }))
  elsewhere r there (inr (inr d)) = inr (inr d)

  pub all_freed : AreWatched c pl keys new rules
  all_freed = record {
    within = subst (λ (n : ℕ). n ≤ length rules) (sym (noted ∙ kept.noted)) w.within;
    each = λ j r low at. forgotten r (elsewhere r (at_in rules j r at.0 at.1)
        (w.each j r (subst (λ (n : ℕ). j < n) (noted ∙ kept.noted) low) at));
  }

-- ---- a rule is no candidate any more

-- nothing is lost but candidates with this number
pub record KeepsOthers (i : RuleId) (old new : Waiting) : Type 0 where
  pub noted : new.noted ≡ old.noted
  pub filed : KeepsKeys old.filed.keys new.filed.keys
  pub sites : (k : Key) → IsIn k old.ready.sites.keys
      → (k.1 ≡ rule_pair i) ⊎ IsIn k new.ready.sites.keys
  pub places : (k : Key) → IsIn k old.ready.places.keys
      → (k.1 ≡ rule_pair i) ⊎ IsIn k new.ready.places.keys

module _ (pl : Places) (keys : List Key) (rules : List NumberedRule) (differ : RulesDiffer rules)
    (old new : Waiting) (q : NumberedRule) (there : IsIn q rules) (kept : KeepsOthers q.id old new)
    (now : IsWatched no_number pl keys new q) where
  others : (r : NumberedRule) → IsIn r rules → IsWatched no_number pl keys old r
      → IsWatched no_number pl keys new r
  others r at (inl f) = inl (record {
    channel = f.channel;
    is = f.is;
    at = kept.filed (f.channel, rule_pair r.id) f.at;
  })
  others r at (inr (inl d)) = go (kept.sites ((root pl r.loc).site, rule_pair r.id) d.at_site)
      (kept.places (place_number r.loc, rule_pair r.id) d.at_place)
    where
      it : rule_pair r.id ≡ rule_pair q.id → IsWatched no_number pl keys new r
      it e = subst (λ (x : NumberedRule). IsWatched no_number pl keys new x)
          (same_rule_by rules differ r q at there e) now

      go : (rule_pair r.id ≡ rule_pair q.id)
          ⊎ IsIn {X = Key} ((root pl r.loc).site, rule_pair r.id) new.ready.sites.keys
          → (rule_pair r.id ≡ rule_pair q.id)
          ⊎ IsIn {X = Key} (place_number r.loc, rule_pair r.id) new.ready.places.keys
          → IsWatched no_number pl keys new r
      go (inl e) place = it e
      go (inr site) (inl e) = it e
      go (inr site) (inr place) = inr (inl (record { at_site = site; at_place = place }))
  others r at (inr (inr d)) = inr (inr d)

  pub but_one : AreWatched no_number pl keys old rules → AreWatched no_number pl keys new rules
  but_one w = record {
    within = subst (λ (n : ℕ). n ≤ length rules) (sym kept.noted) w.within;
    each = λ j r low at. others r (at_in rules j r at.0 at.1)
        (w.each j r (subst (λ (n : ℕ). j < n) kept.noted low) at);
  }

-- ---- a key that stands for no rule at its site is no candidate's

module _ (pl : Places) (keys : List Key) (rules : List NumberedRule) (old new : Waiting) (key : Key)
    (noted : new.noted ≡ old.noted) (filed : KeepsKeys old.filed.keys new.filed.keys)
    (sites : (k : Key) → IsIn k old.ready.sites.keys → (k ≡ key) ⊎ IsIn k new.ready.sites.keys)
    (places : KeepsKeys old.ready.places.keys new.ready.places.keys)
    (none : (r : NumberedRule) → IsIn r rules
    → ◌≡◌ {A = Key} ((root pl r.loc).site, rule_pair r.id) key → ⊥) where
  unneeded : (r : NumberedRule) → IsIn r rules → IsWatched no_number pl keys old r
      → IsWatched no_number pl keys new r
  unneeded r at (inl f) = inl (record {
    channel = f.channel;
    is = f.is;
    at = filed (f.channel, rule_pair r.id) f.at;
  })
  unneeded r at (inr (inl d)) = go (sites ((root pl r.loc).site, rule_pair r.id) d.at_site)
    where
      go : (◌≡◌ {A = Key} ((root pl r.loc).site, rule_pair r.id) key)
          ⊎ IsIn {X = Key} ((root pl r.loc).site, rule_pair r.id) new.ready.sites.keys
          → IsWatched no_number pl keys new r
      go (inl e) = absurd (none r at e)
      go (inr site) = inr (inl (record {
        at_site = site;
        at_place = places (place_number r.loc, rule_pair r.id) d.at_place;
      }))
  unneeded r at (inr (inr d)) = inr (inr d)

  pub key_dropped : AreWatched no_number pl keys old rules → AreWatched no_number pl keys new rules
  key_dropped w = record {
    within = subst (λ (n : ℕ). n ≤ length rules) (sym noted) w.within;
    each = λ j r low at. unneeded r (at_in rules j r at.0 at.1)
        (w.each j r (subst (λ (n : ℕ). j < n) noted low) at);
  }

-- there is no rule with its number
pub none_with : (pl : Places) (rules : List NumberedRule) → RulesDiffer rules → (key : Key)
    → None ≡ rule_at rules (id_of key) → (r : NumberedRule) → IsIn r rules
    → ◌≡◌ {A = Key} ((root pl r.loc).site, rule_pair r.id) key → ⊥
none_with pl rules differ key none r there e =
    let found : rule_at rules (id_of key) ≡ Some r =
    by_pair rules differ key.1 r there (ap (λ (k : Key). k.1) e) in
    let clash : None ≡ Some r = none ∙ found in
    cc

-- the one with its number is at another site
pub none_at : (pl : Places) (rules : List NumberedRule) → RulesDiffer rules → (key : Key)
    (q : NumberedRule) → Some q ≡ rule_at rules (id_of key) → (at : Loc) → at ≡ root pl q.loc
    → (at.site ≡ key.0 → ⊥) → (r : NumberedRule) → IsIn r rules
    → ◌≡◌ {A = Key} ((root pl r.loc).site, rule_pair r.id) key → ⊥
none_at pl rules differ key q found at is other r there e =
    let same : q ≡ r =
    same_Some q r (found ∙ by_pair rules differ key.1 r there (ap (λ (k : Key). k.1) e)) in
    other (ap (λ (l : Loc). l.site) is ∙ ap (λ (x : NumberedRule). (root pl x.loc).site) same
    ∙ ap (λ (k : Key). k.0) e)
