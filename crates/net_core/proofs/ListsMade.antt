-- Lists of choices that are made one after another.
use Rattle.std.proofs.Common.{◌≡◌, ℕ, zero, suc, ◌+◌, ◌<◌, ◌≤◌, List, [], ◌∷◌, ◌++◌, length, take}
use Rattle.std.proofs.Common.{drop, get_or, Option, Some, None, Bool, true, false, refl, sym, ap}
use Rattle.std.proofs.Common.{◌∙◌, subst, arith, length-append}
use Rattle.std.specs.Prelude.{slice_get, IsTrue, ◌↔◌, Result, Ok, Err, OnOk, OnErr, is_err}
use Rattle.std.proofs.lemmas.Option.{slice_get-get_or}
use Rattle.chem_model.specs.declared.event.Event.{Event}
use Rattle.env_store.specs.CodeParts.{CodeParts}
use Rattle.env_store.specs.CodeFacts.{IsCode}
use Rattle.net_laws.specs.Net.{Net}
use Rattle.net_core.specs.declared.choice.Choice.{Choice}
use Rattle.net_core.specs.declared.plays.Played.{Played}
use Rattle.net_core.specs.Acts.{Acts}
use Rattle.net_core.specs.Acts as acts
use Rattle.net_core.specs.Choosing.{Allows}
use Rattle.net_core.specs.Making.{counted}
use Rattle.net_core.specs.Played.{ActsAll, stops, makes, carries, GoesOn, GetsStuck, Stops}
use Rattle.net_core.specs.Played.{HasPlayed}
use Rattle.net_core.specs.inside.PlayedSoFar.{listed, MakesMore}
use Rattle.net_core.proofs.SoFar.{IsPlaying}
use Rattle.net_core.specs.Playing.{Does, DoesAll, react, deliver, halt, detect, move}
use Rattle.net_core.specs.Playing as lists
use Rattle.net_core.specs.Whole.{NetParts}
use Rattle.net_core.proofs.Playing.{lists_replay}
use Rattle.net_core.proofs.SiteReactions.{take_next}

pub on_err : {A E : Type 0} {P : Type 0} (r : Result A E) → is_err r ≡ true → OnErr r P → P
on_err (Ok x) e p = cc
on_err (Err x) e p = p

pub on_ok : {A E : Type 0} {P : Type 0} (r : Result A E) → is_err r ≡ false → OnOk r P → P
on_ok (Ok x) e p = p
on_ok (Err x) e p = cc

acts_does : (c : CodeParts) (net new : Net) (x : Choice) (o : Option Event) → Acts c net x o new
    → Does c net o new
acts_does c net new _ _ (acts.react i p e _ r) = react i p.group p.guard e new r
acts_does c net new _ _ (acts.deliver f _ d) = deliver f new d
acts_does c net new _ _ (acts.move a _ m) = move a new m
acts_does c net new _ _ (acts.halt a _ h) = halt a new h
acts_does c net new _ _ (acts.detect a _ d) = detect a new d

all_does : (c : CodeParts) (net end : Net) (xs : List Choice) (es : List Event)
    → ActsAll c net xs es end → DoesAll c net es end
all_does c net end _ _ (stops _) = lists.stops net
all_does c net end _ _ (makes _ mid _ x xs e es a rest) =
    lists.makes net mid end e es (acts_does c net mid x (Some e) a) (all_does c mid end xs es rest)
all_does c net end _ _ (carries _ mid _ x xs es a rest) =
    lists.carries net mid end es (acts_does c net mid x None a) (all_does c mid end xs es rest)

one_more : (c : CodeParts) (net end : Net) (x : Choice) (o : Option Event) → Acts c net x o end
    → ActsAll c net (x ∷ []) (listed o) end
one_more c net end x None a = carries net end end x [] [] a (stops end)
one_more c net end x (Some e) a = makes net end end x [] e [] a (stops end)

more_made :
    (c : CodeParts) (net mid end : Net) (xs : List Choice) (es : List Event) (x : Choice)
    (o : Option Event) → ActsAll c net xs es mid → Acts c mid x o end
    → ActsAll c net (xs ++ x ∷ []) (es ++ listed o) end
more_made c net mid end _ _ x o (stops _) a = one_more c net end x o a
more_made c net mid end _ _ x o (makes _ next _ y ys e es b rest) a = makes net next end y
    (ys ++ x ∷ []) e (es ++ listed o) b (more_made c next mid end ys es x o rest a)
more_made c net mid end _ _ x o (carries _ next _ y ys es b rest) a = carries net next end y
    (ys ++ x ∷ []) (es ++ listed o) b (more_made c next mid end ys es x o rest a)

drop_suc : (xs : List Choice) (n : ℕ) (x : Choice) → slice_get xs n ≡ Some x
    → drop n xs ≡ x ∷ drop (suc n) xs
drop_suc [] n x e = cc
drop_suc (y ∷ xs) zero x e = let same : y ≡ x = cc in ap (λ z. z ∷ xs) same
drop_suc (y ∷ xs) (suc n) x e = drop_suc xs n x e

drop_next : (xs : List Choice) (n : ℕ) (x : Choice) → slice_get xs n ≡ Some x
    → drop n xs ≡ x ∷ drop (n + 1) xs
drop_next xs n x e =
    let one : suc n ≡ n + 1 = omega arith in
    drop_suc xs n x e ∙ ap (λ k. x ∷ drop k xs) one

drop_none : (xs : List Choice) (n : ℕ) → length xs ≤ n → drop n xs ≡ []
drop_none [] zero h = refl
drop_none [] (suc n) h = refl
drop_none (y ∷ xs) zero h = absurd (omega arith)
drop_none (y ∷ xs) (suc n) h = drop_none xs n (omega arith)

listed_length : (o : Option Event) → length (listed o) ≡ counted o
listed_length None = refl
listed_length (Some e) = refl

module _ (old : NetParts) (xs : List Choice) where
  pub none_played : IsPlaying old xs 0 [] old
  none_played =
      record { made = stops old.net; code = refl; events = omega arith; few = omega arith }

  few_listed : (o : Option Event) → counted o ≤ 1
  few_listed None = omega arith
  few_listed (Some e) = omega arith

  pub more_played : (n : ℕ) (x : Choice) (es more : List Event) (mid new : NetParts)
      → slice_get xs n ≡ Some x → IsPlaying old xs n es mid → MakesMore mid es x new more
      → IsPlaying old xs (n + 1) more new
  more_played n x es more mid new here playing makes_more =
      let o = makes_more.outcome in
      let acted = makes_more.acted in
      let act : Acts old.code mid.net x o new.net =
      subst (λ (d : CodeParts). Acts d mid.net x o new.net) playing.code acted.acts in
      let made = more_made old.code old.net mid.net new.net (take n xs) es x o playing.made act in
      let long : length more ≡ length es + counted o =
      ap length makes_more.events ∙ length-append es (listed o)
      ∙ ap (λ k. length es + k) (listed_length o) in
      let events = acted.events in
      let before = playing.events in
      let few = playing.few in
      let one = few_listed o in
      record {
        made = subst (λ us. ActsAll old.code old.net us more new.net) (sym (take_next xs n x here))
            (subst (λ ds. ActsAll old.code old.net (take n xs ++ x ∷ []) ds new.net)
            (sym makes_more.events) made);
        code = acted.code ∙ playing.code;
        events = omega arith;
        few = omega arith;
      }

  pub all_played : (n : ℕ) (es : List Event) (new : NetParts) (p : Played) → IsCode old.code
      → n ≤ length xs → IsPlaying old xs n es new → p.events ≡ es → p.done ≡ n
      → Stops p.stop new.code new.net (drop n xs) → HasPlayed old xs p new
  all_played n es new p code within playing events_are done_is stop =
      let made : ActsAll old.code old.net (take p.done xs) p.events new.net =
      subst (λ k. ActsAll old.code old.net (take k xs) p.events new.net) (sym done_is)
      (subst (λ ds. ActsAll old.code old.net (take n xs) ds new.net) (sym events_are)
      playing.made) in
      record {
        made = made;
        within = subst (λ k. k ≤ length xs) (sym done_is) within;
        stops = subst (λ k. Stops p.stop new.code new.net (drop k xs)) (sym done_is) stop;
        code = playing.code;
        events = playing.events ∙ ap (λ ds. old.events + length ds) (sym events_are);
        replays = λ q m ok is stands runs. lists_replay old.code old.net new.net p.events code
            (all_does old.code old.net new.net (take p.done xs) p.events made) q m ok is stands
            runs;
      }

  pub gets_stuck : (n : ℕ) (x : Choice) (new : NetParts) → slice_get xs n ≡ Some x
      → (Allows new.code new.net x → ⊥) → GetsStuck new.code new.net (drop n xs)
  gets_stuck n x new here not =
      record { next = x; rest = drop (n + 1) xs; is = drop_next xs n x here; not = not }

  pub goes_on : (n : ℕ) (x : Choice) (new : NetParts) → slice_get xs n ≡ Some x
      → Allows new.code new.net x → GoesOn new.code new.net (drop n xs)
  goes_on n x new here may =
      record { next = x; rest = drop (n + 1) xs; is = drop_next xs n x here; allowed = may }

  -- the choice at a place of the list
  pub stuck_at : (n : ℕ) (d : Choice) (new : NetParts) (r : Bool) → n < length xs
      → (IsTrue r ↔ Allows new.code new.net (get_or xs n d)) → r ≡ false
      → GetsStuck new.code new.net (drop n xs)
  stuck_at n d new r below tells is =
      gets_stuck n (get_or xs n d) new (slice_get-get_or xs n d below)
      (λ may. let both : true ≡ false = sym (tells.1 may) ∙ is in cc)

  pub going_at : (n : ℕ) (d : Choice) (new : NetParts) (r : Bool) → n < length xs
      → (IsTrue r ↔ Allows new.code new.net (get_or xs n d)) → r ≡ true
      → GoesOn new.code new.net (drop n xs)
  going_at n d new r below tells is =
      goes_on n (get_or xs n d) new (slice_get-get_or xs n d below) (tells.0 is)

  pub more_at : (n : ℕ) (d : Choice) (es more : List Event) (mid new : NetParts) → n < length xs
      → IsPlaying old xs n es mid → MakesMore mid es (get_or xs n d) new more
      → IsPlaying old xs (n + 1) more new
  more_at n d es more mid new below playing makes_more = more_played n (get_or xs n d) es more mid
      new (slice_get-get_or xs n d below) playing makes_more

  pub same_played : (n : ℕ) (es ds : List Event) (mid new : NetParts) → new ≡ mid → ds ≡ es
      → IsPlaying old xs n es mid → IsPlaying old xs n ds new
  same_played n es ds mid new e f playing = subst (λ us. IsPlaying old xs n us new) (sym f)
      (subst (λ (v : NetParts). IsPlaying old xs n es v) (sym e) playing)

  pub same_goes : (n : ℕ) (mid new : NetParts) → new ≡ mid → GoesOn mid.code mid.net (drop n xs)
      → GoesOn new.code new.net (drop n xs)
  same_goes n mid new e goes =
      subst (λ (v : NetParts). GoesOn v.code v.net (drop n xs)) (sym e) goes

  pub none_left : (n : ℕ) → length xs ≤ n → drop n xs ≡ []
  none_left n h = drop_none xs n h
