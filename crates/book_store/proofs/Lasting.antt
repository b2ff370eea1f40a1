-- What is kept of rules and of older requests stays right where locations change.
use Rattle.std.proofs.Common.{◌≡◌, ℕ, ◌<◌, ◌≤◌, ◌⊎◌, List, ◌++◌, length, Some, Bool, true, false}
use Rattle.std.proofs.Common.{refl, ap, sym, ◌∙◌, subst, inl, inr, arith, length-append}
use Rattle.std.proofs.lemmas.Bool.{or_left}
use Rattle.std.proofs.lemmas.List.{get_or_append_left}
use Rattle.chem_model.specs.declared.name.Loc.{Loc}
use Rattle.chem_model.specs.declared.numbered.NumberedRule.{NumberedRule}
use Rattle.chem_model.specs.declared.numbered.NumberedAtom.{NumberedAtom}
use Rattle.chem_model.specs.Process.{Process}
use Rattle.chem_model.specs.Each.{IsIn}
use Rattle.chem_model.specs.Solution.{Places, same_loc, is_there, root, within, dead, live}
use Rattle.chem_model.specs.Solution.{rehosted, marked}
use Rattle.chem_laws.proofs.Within.{same_loc_is, same_loc_refl}
use Rattle.chem_laws.proofs.Places.{live_parts}
use Rattle.book_store.specs.Keys.{Key, place_number}
use Rattle.book_store.specs.Watched.{IsAt, IsWatched, AreWatched, KeepsWaiting, rule_pair}
use Rattle.book_store.specs.Candidates.{IsCandidate, KeepsCandidates, AreAtSite}
use Rattle.book_store.specs.Asked.{awaited, has_host, IsNever, asks_nothing, at_dead, from_root}
use Rattle.book_store.specs.Asked.{to_hosted, to_dead, IsAsked, AreAsked, AreCalled, KeepsAsking}
use Rattle.book_store.specs.Asked.{atom_pair}
use Rattle.book_store.specs.declared.candidates.Candidates.{Candidates}
use Rattle.book_store.specs.declared.waiting.Waiting.{Waiting}
use Rattle.book_store.specs.declared.asking.Asking.{Asking}
use Rattle.book_store.proofs.Changes.{Follows, RootsAreThere, Grows, grown_root, grown_dead}
use Rattle.book_store.proofs.Changes.{grown_follows, moved_root, other_root, other_dead}
use Rattle.book_store.proofs.Changes.{moved_follows, marked_root, marked_follows, outside_dead}

-- ---- candidates

candidate_at : (pl new : Places) (c : Candidates) (l : Loc) (i : ℕ × ℕ) → root new l ≡ root pl l
    → IsCandidate pl c l i → IsCandidate new c l i
candidate_at pl new c l i same h = record {
  at_site = subst (λ (q : Loc). IsIn {X = Key} (q.site, i) c.sites.keys) (sym same) h.at_site;
  at_place = h.at_place;
}

-- those of the location that moves are candidates at its new site
moved_candidate : (pl : Places) (l b : Loc) (c : Candidates) (q : Loc) (i : ℕ × ℕ)
    → live pl l ≡ true → AreAtSite c l b.site → IsCandidate pl c q i
    → IsCandidate (rehosted pl l b) c q i
moved_candidate pl l b c q i alive sent h = go (same_loc l q) refl
  where
    go : (t : Bool) → same_loc l q ≡ t → IsCandidate (rehosted pl l b) c q i
    go false e = candidate_at pl (rehosted pl l b) c q i (other_root pl l b q e) h
    go true e =
        let same : l ≡ q = same_loc_is l q e in
        let there : is_there (pl q) ≡ true =
        ap (λ (x : Loc). is_there (pl x)) (sym same) ∙ (live_parts pl l alive).0 in
        let at : IsIn {X = Key} (b.site, i) c.sites.keys =
        sent (place_number q, i) h.at_place (ap place_number (sym same)) in
        record {
          at_site = subst (λ (x : Loc). IsIn {X = Key} (x.site, i) c.sites.keys)
              (sym (moved_root pl l b q e there)) at;
          at_place = h.at_place;
        }

candidate_kept : (pl : Places) (old new : Candidates) (l : Loc) (i : ℕ × ℕ)
    → KeepsCandidates old new → IsCandidate pl old l i → IsCandidate pl new l i
candidate_kept pl old new l i keeps h = record {
  at_site = keeps.sites ((root pl l).site, i) h.at_site;
  at_place = keeps.places (place_number l, i) h.at_place;
}

-- ---- rules

watched_on : (but : ℕ) (pl new : Places) (keys : List Key) (w : Waiting) (r : NumberedRule)
    → (IsCandidate pl w.ready r.loc (rule_pair r.id)
    → IsCandidate new w.ready r.loc (rule_pair r.id))
    → (dead pl r.loc ≡ true → dead new r.loc ≡ true) → IsWatched but pl keys w r
    → IsWatched but new keys w r
watched_on but pl new keys w r f g (inl filed) = inl filed
watched_on but pl new keys w r f g (inr (inl candidate)) = inr (inl (f candidate))
watched_on but pl new keys w r f g (inr (inr d)) = inr (inr (g d))

-- where births come and rules are appended
pub grown_watched : (but : ℕ) (pl new : Places) (keys : List Key) (w : Waiting)
    (rules more : List NumberedRule)
    → RootsAreThere pl → Grows pl new
    → ((j : ℕ) (r : NumberedRule) → IsAt rules j r → is_there (pl r.loc) ≡ true)
    → AreWatched but pl keys w rules → AreWatched but new keys w (rules ++ more)
grown_watched but pl new keys w rules more roots grows there h = record {
  within = omega (arith, h.within, length-append rules more);
  each = λ j r small at.
      let low : j < length rules = omega (arith, small, h.within) in
      let here : IsAt rules j r = (low, at.1 ∙ get_or_append_left rules more r j low) in
      let stands = there j r here in
      let follows = grown_follows pl new roots grows in
      watched_on but pl new keys w r
      (candidate_at pl new w.ready r.loc (rule_pair r.id)
      (grown_root pl new roots grows r.loc stands))
      (follows.dies r.loc) (h.each j r small here);
}

-- where a location moves
pub moved_watched : (but : ℕ) (pl : Places) (l b : Loc) (keys : List Key) (w : Waiting)
    (rules : List NumberedRule) → live pl l ≡ true → has_host pl l ≡ true
    → AreAtSite w.ready l b.site → AreWatched but pl keys w rules
    → AreWatched but (rehosted pl l b) keys w rules
moved_watched but pl l b keys w rules alive has sent h = record {
  within = h.within;
  each = λ j r small at.
      let follows = moved_follows pl l b alive has in
      watched_on but pl (rehosted pl l b) keys w r
      (moved_candidate pl l b w.ready r.loc (rule_pair r.id) alive sent) (follows.dies r.loc)
      (h.each j r small at);
}

-- where a location is marked
pub marked_watched : (but : ℕ) (pl : Places) (l : Loc) (keys : List Key) (w : Waiting)
    (rules : List NumberedRule) → AreWatched but pl keys w rules
    → AreWatched but (marked pl l) keys w rules
marked_watched but pl l keys w rules h = record {
  within = h.within;
  each = λ j r small at.
      let follows = marked_follows pl l in
      watched_on but pl (marked pl l) keys w r
      (candidate_at pl (marked pl l) w.ready r.loc (rule_pair r.id) (marked_root pl l r.loc))
      (follows.dies r.loc) (h.each j r small at);
}

-- ---- older requests

never_on : (version : ℕ) (pl new : Places) → Follows pl new → (l : Loc) (q : Process)
    → IsNever version pl l q → IsNever version new l q
never_on version pl new f l q (asks_nothing h g w) = asks_nothing h g w
never_on version pl new f l q (at_dead d) = at_dead (f.dies l d)
never_on version pl new f l q (from_root b e there h) =
    let stays = f.free l there h in from_root b e stays.0 stays.1
never_on version pl new f l q (to_hosted b e h) = to_hosted b e (f.hosted b h)
never_on version pl new f l q (to_dead b e d first) = to_dead b e (f.dies b d) first

-- what is not awaited any more
abbrev Settles : ℕ → Places → Asking → NumberedAtom → Type 0
Settles version pl s a =
    IsCandidate pl s.ready a.loc (atom_pair a.id) ⊎ IsNever version pl a.loc a.term

settles_on : (version : ℕ) (pl new : Places) (s : Asking) (a : NumberedAtom)
    → (IsCandidate pl s.ready a.loc (atom_pair a.id)
    → IsCandidate new s.ready a.loc (atom_pair a.id))
    → Follows pl new → Settles version pl s a → Settles version new s a
settles_on version pl new s a f g (inl candidate) = inl (f candidate)
settles_on version pl new s a f g (inr never) = inr (never_on version pl new g a.loc a.term never)

-- where what is awaited stays alive, or its request is settled
asked_on : (version : ℕ) (pl new : Places) (s : Asking) (a : NumberedAtom)
    → (IsCandidate pl s.ready a.loc (atom_pair a.id)
    → IsCandidate new s.ready a.loc (atom_pair a.id))
    → Follows pl new
    → ((t : Loc) → awaited a.term ≡ Some t → dead pl t ≡ false
    → (dead new t ≡ false) ⊎ Settles version new s a)
    → IsAsked version pl s a → IsAsked version new s a
asked_on version pl new s a f g h (inl candidate) = inl (f candidate)
asked_on version pl new s a f g h (inr (inr never)) =
    inr (inr (never_on version pl new g a.loc a.term never))
asked_on version pl new s a f g h (inr (inl w)) = go (h w.target w.awaits w.alive)
  where
    go : (dead new w.target ≡ false) ⊎ Settles version new s a → IsAsked version new s a
    go (inl alive) =
        inr (inl (record { target = w.target; awaits = w.awaits; alive = alive; at = w.at }))
    go (inr (inl candidate)) = inl candidate
    go (inr (inr never)) = inr (inr never)

-- where births come
pub grown_asked : (version : ℕ) (pl new : Places) (s : Asking) (atoms : List NumberedAtom)
    → RootsAreThere pl → Grows pl new
    → ((a : NumberedAtom) → IsIn a atoms → is_there (pl a.loc) ≡ true)
    → ((a : NumberedAtom) (t : Loc) → IsIn a atoms → awaited a.term ≡ Some t
    → is_there (pl t) ≡ true)
    → AreAsked version pl s atoms → AreAsked version new s atoms
grown_asked version pl new s atoms roots grows there targets h = λ a at.
    asked_on version pl new s a
    (candidate_at pl new s.ready a.loc (atom_pair a.id)
    (grown_root pl new roots grows a.loc (there a at)))
    (grown_follows pl new roots grows)
    (λ t e alive. inl (grown_dead pl new roots grows t (targets a t at e) ∙ alive)) (h a at)

within_itself : (pl : Places) (l t : Loc) → same_loc l t ≡ true → within pl t l ≡ true
within_itself pl l t e = or_left (same_loc t l) (same_loc (root pl t) l)
    (ap (same_loc t) (same_loc_is l t e) ∙ same_loc_refl t)

-- where a location moves: it stays alive, or those that await it are settled
pub moved_asked : (version : ℕ) (pl : Places) (l b : Loc) (s : Asking) (atoms : List NumberedAtom)
    → live pl l ≡ true → has_host pl l ≡ true → AreAtSite s.ready l b.site
    → (dead (rehosted pl l b) l ≡ false) ⊎ AreCalled version pl s l atoms
    → AreAsked version pl s atoms → AreAsked version (rehosted pl l b) s atoms
moved_asked version pl l b s atoms alive has sent falls h = λ a at.
    asked_on version pl (rehosted pl l b) s a (stays a) (moved_follows pl l b alive has)
    (λ t e lives. go a at t e lives (same_loc l t) refl falls) (h a at)
  where
    stays : (a : NumberedAtom) → IsCandidate pl s.ready a.loc (atom_pair a.id)
        → IsCandidate (rehosted pl l b) s.ready a.loc (atom_pair a.id)
    stays a = moved_candidate pl l b s.ready a.loc (atom_pair a.id) alive sent

    go : (a : NumberedAtom) → IsIn a atoms → (t : Loc) → awaited a.term ≡ Some t
        → dead pl t ≡ false → (u : Bool) → same_loc l t ≡ u
        → (dead (rehosted pl l b) l ≡ false) ⊎ AreCalled version pl s l atoms
        → (dead (rehosted pl l b) t ≡ false) ⊎ Settles version (rehosted pl l b) s a
    go a at t e lives false u f = inl (other_dead pl l b t u ∙ lives)
    go a at t e lives true u (inl f) =
        inl (ap (dead (rehosted pl l b)) (sym (same_loc_is l t u)) ∙ f)
    go a at t e lives true u (inr f) =
        inr (settles_on version pl (rehosted pl l b) s a (stays a) (moved_follows pl l b alive has)
        ((f a at).1 t e (within_itself pl l t u)))

-- where a location is marked: those that await what is within it are settled
pub marked_asked : (version : ℕ) (pl : Places) (l : Loc) (s : Asking) (atoms : List NumberedAtom)
    → AreCalled version pl s l atoms → AreAsked version (marked pl l) s atoms
marked_asked version pl l s atoms called = λ a at.
    asked_on version pl (marked pl l) s a (stays a) (marked_follows pl l)
    (λ t e lives. go a at t e lives (within pl t l) refl) (called a at).0
  where
    stays : (a : NumberedAtom) → IsCandidate pl s.ready a.loc (atom_pair a.id)
        → IsCandidate (marked pl l) s.ready a.loc (atom_pair a.id)
    stays a =
        candidate_at pl (marked pl l) s.ready a.loc (atom_pair a.id) (marked_root pl l a.loc)

    go : (a : NumberedAtom) → IsIn a atoms → (t : Loc) → awaited a.term ≡ Some t
        → dead pl t ≡ false → (u : Bool) → within pl t l ≡ u
        → (dead (marked pl l) t ≡ false) ⊎ Settles version (marked pl l) s a
    go a at t e lives false u = inl (outside_dead pl l t u ∙ lives)
    go a at t e lives true u = inr (settles_on version pl (marked pl l) s a (stays a)
        (marked_follows pl l) ((called a at).1 t e u))

-- ---- more keys

pub watched_more : (but : ℕ) (pl : Places) (keys : List Key) (old new : Waiting)
    (rules : List NumberedRule) → KeepsWaiting old new → AreWatched but pl keys old rules
    → AreWatched but pl keys new rules
watched_more but pl keys old new rules keeps h = record {
  within = subst (λ (k : ℕ). k ≤ length rules) (sym keeps.noted) h.within;
  each = λ j r small at. go r (h.each j r (subst (λ (k : ℕ). j < k) keeps.noted small) at);
}
  where
    go : (r : NumberedRule) → IsWatched but pl keys old r → IsWatched but pl keys new r
    go r (inl f) = inl (record {
      channel = f.channel;
      is = f.is;
      at = keeps.filed (f.channel, rule_pair r.id) f.at;
    })
    go r (inr (inl candidate)) = inr (inl
        (candidate_kept pl old.ready new.ready r.loc (rule_pair r.id) keeps.ready candidate))
    go r (inr (inr d)) = inr (inr d)

asked_more_one : (version : ℕ) (pl : Places) (old new : Asking) (a : NumberedAtom)
    → KeepsAsking old new → IsAsked version pl old a → IsAsked version pl new a
asked_more_one version pl old new a keeps (inl candidate) =
    inl (candidate_kept pl old.ready new.ready a.loc (atom_pair a.id) keeps.ready candidate)
asked_more_one version pl old new a keeps (inr (inl w)) = inr (inl (record {
  target = w.target;
  awaits = w.awaits;
  alive = w.alive;
  at = keeps.awaits (place_number w.target, atom_pair a.id) w.at;
}))
asked_more_one version pl old new a keeps (inr (inr never)) = inr (inr never)

pub asked_more : (version : ℕ) (pl : Places) (old new : Asking) (atoms : List NumberedAtom)
    → KeepsAsking old new → AreAsked version pl old atoms → AreAsked version pl new atoms
asked_more version pl old new atoms keeps h =
    λ a at. asked_more_one version pl old new a keeps (h a at)

pub called_more : (version : ℕ) (pl : Places) (old new : Asking) (l : Loc)
    (atoms : List NumberedAtom) → KeepsAsking old new → AreCalled version pl old l atoms
    → AreCalled version pl new l atoms
called_more version pl old new l atoms keeps h = λ a at. (
  asked_more_one version pl old new a keeps (h a at).0,
  λ t e inside. go a ((h a at).1 t e inside),
)
  where
    go : (a : NumberedAtom) → Settles version pl old a → Settles version pl new a
    go a (inl candidate) =
        inl (candidate_kept pl old.ready new.ready a.loc (atom_pair a.id) keeps.ready candidate)
    go a (inr never) = inr never
