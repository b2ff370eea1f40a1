-- The keyword that is found for a word is the one whose spelling it is.
use Rattle.std.proofs.Common.{◌≡◌, ◌≢◌, ◌⊎◌, ℕ, Bool, true, false, cond, List, [], ◌∷◌, refl, sym}
use Rattle.std.proofs.Common.{ap, ◌∙◌, inl, inr, Some, None}
use Rattle.std.specs.Str.{bytes_eq}
use Rattle.std.proofs.lemmas.Slice.Eq.{bytes_eq-Decides}
use Rattle.chem_model.specs.Each.{IsIn}
use Rattle.join_lex.specs.declared.token.Key.{Key}
use Rattle.join_lex.specs.declared.token.Key.TheVariants as key
use Rattle.join_lex.specs.Spelling.{second_version, key_bytes, in_word, is_lower, IsStretch}
use Rattle.join_lex.specs.inside.Scan.{key_at}

-- Two words are tested to be equal, or not to be.
by_test : (a b : List ℕ) (C : Bool → Type 0) → (a ≡ b → C true) → (a ≢ b → C false)
    → C (bytes_eq a b)
by_test a b C same other =
    elim (bytes_eq a b) as (λ v. (v ≡ true → a ≡ b) → (a ≡ b → v ≡ true) → C v)
    [ true ↦ λ d e. same (d refl) | false ↦ λ d e. other (λ h. let n : false ≡ true = e h in cc) ]
    (bytes_eq-Decides a b).0 (bytes_eq-Decides a b).1

-- A keyword's spelling is a word.
pub key-run : (k : Key) → IsStretch is_lower in_word (key_bytes k)
key-run key.Observe = record {
  head = 111;
  more = _;
  is = refl;
  starts = refl;
  passes = (refl, (refl, (refl, (refl, (refl, (refl, tt))))));
}
key-run key.Site =
    record { head = 115; more = _; is = refl; starts = refl; passes = (refl, (refl, (refl, tt))) }
key-run key.Def =
    record { head = 100; more = _; is = refl; starts = refl; passes = (refl, (refl, tt)) }
key-run key.Inside = record { head = 105; more = _; is = refl; starts = refl; passes = (refl, tt) }
key-run key.And =
    record { head = 97; more = _; is = refl; starts = refl; passes = (refl, (refl, tt)) }
key-run key.Go = record { head = 103; more = _; is = refl; starts = refl; passes = (refl, tt) }
key-run key.Fail =
    record { head = 102; more = _; is = refl; starts = refl; passes = (refl, (refl, (refl, tt))) }
key-run key.Halt =
    record { head = 104; more = _; is = refl; starts = refl; passes = (refl, (refl, (refl, tt))) }
key-run key.Void =
    record { head = 110; more = _; is = refl; starts = refl; passes = (refl, (refl, (refl, tt))) }
key-run key.Add =
    record { head = 97; more = _; is = refl; starts = refl; passes = (refl, (refl, tt)) }
key-run key.Same =
    record { head = 115; more = _; is = refl; starts = refl; passes = (refl, (refl, (refl, tt))) }

pub read_back : (k : Key) → key_at second_version.keywords (key_bytes k) ≡ Some k
read_back key.Observe = refl
read_back key.Site = refl
read_back key.Def = refl
read_back key.Inside = refl
read_back key.And = refl
read_back key.Go = refl
read_back key.Fail = refl
read_back key.Halt = refl
read_back key.Void = refl
read_back key.Add = refl
read_back key.Same = refl

-- Two keywords have two spellings.
pub one_key : (j k : Key) → key_bytes j ≡ key_bytes k → j ≡ k
one_key j k e =
    let same : Some j ≡ Some k =
    sym (read_back j) ∙ ap (key_at second_version.keywords) e ∙ read_back k in
    cc

pub key_at-none : (keys : List Key) (w : List ℕ) → ((k : Key) → IsIn k keys → w ≢ key_bytes k)
    → key_at keys w ≡ None
key_at-none [] w n = refl
key_at-none (k ∷ ks) w n =
    by_test w (key_bytes k) (λ v. cond v (Some k) (key_at ks w) ≡ None)
    (λ h. absurd (n k (inl refl) h))
    (λ h. key_at-none ks w (λ j m. n j (inr m)))

pub key_at-key : (keys : List Key) (k : Key) → IsIn k keys → key_at keys (key_bytes k) ≡ Some k
key_at-key [] k m = absurd m
key_at-key (j ∷ js) k m =
    by_test (key_bytes k) (key_bytes j) (λ v. cond v (Some j) (key_at js (key_bytes k)) ≡ Some k)
    (λ h. ap Some (sym (one_key k j h)))
    (λ h. key_at-key js k (later m h))
  where
    later : (k ≡ j) ⊎ IsIn k js → key_bytes k ≢ key_bytes j → IsIn k js
    later (inl e) h = absurd (h (ap key_bytes e))
    later (inr m) h = m

pub key_at-some : (keys : List Key) (w : List ℕ) (k : Key) → key_at keys w ≡ Some k
    → (w ≡ key_bytes k) × IsIn k keys
key_at-some [] w k e = cc
key_at-some (j ∷ js) w k e =
    by_test w (key_bytes j)
    (λ v. cond v (Some j) (key_at js w) ≡ Some k → (w ≡ key_bytes k) × IsIn k (j ∷ js))
    (λ h q. let s : j ≡ k = cc in (h ∙ ap key_bytes s, inl (sym s)))
    (λ h q. let r = key_at-some js w k q in (r.0, inr r.1))
    e

pub not-key : (keys : List Key) (w : List ℕ) → key_at keys w ≡ None → (k : Key) → IsIn k keys
    → w ≢ key_bytes k
not-key keys w e k m h =
    let s : key_at keys w ≡ Some k = ap (key_at keys) h ∙ key_at-key keys k m in
    cc
