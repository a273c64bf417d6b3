-- Laws of changes: the string that is hashed to extend a PCR, and a state with a value put.
use Rattle.std.proofs.Common.{◌≡◌, ℕ, ◌<◌, ◌≤◌, true, false, cond, ◌&&◌, ◌||◌, eqb, ltb, leb, List, [], length, is_some, Some, None, Ok, Err, Decides, Option, sym, refl, ap, subst, arith}
use Rattle.std.specs.List.{ContainsAt}
use Rattle.std.specs.Str.{bytes_eq}
use Rattle.std.proofs.lemmas.Slice.Eq.{bytes_eq-Decides}
use Rattle.std.proofs.lemmas.List.{length-map}
use Rattle.std.proofs.lemmas.Bool.{and_from, and_left, and_right, cond-true, eq-eqb, ne_eqb, le-leb, lt-leb, lt-ltb}
use Rattle.interfaces.specs.declared.code.Code.{Code}
use Rattle.interfaces.specs.declared.code.Code.TheVariants.{Value, Size, Memory}
use Rattle.interfaces.specs.Checks.{first, refused_with, settled, unless}
use Rattle.interfaces.specs.Hashing.{hash_written}
use Rattle.interfaces.specs.States.{Snapshot, pcr_count, pcr_length, name_length, value_limit}
use Rattle.sha256.specs.Sha256.{sha256, sha256_hashing}
use Rattle.tables.specs.Tables.{value_under, put_under, distinct, full_flaw}
use Rattle.tables.proofs.Laws.{distinct_put, keys, held_keys, keys_once, value_put}
use Rattle.state.specs.declared.entry.Entry.{Entry}
use Rattle.state.specs.declared.values.Values.{Values}
use Rattle.state.specs.Entries.{value_bytes, value_count}
use Rattle.state.specs.Changes.{last_count, extend_flaw, put_flaw, with_value, Holding}
use Rattle.state.specs.Views.{held}

pub hashed : (t : List ℕ) → length t ≤ 65536 → hash_written sha256_hashing t 32 ≡ sha256 t
hashed t h = cond-true _ _ _ (and_from _ _ (le-leb _ _ h) refl)

pub extend_passes : (s : Snapshot) (index : ℕ) (value : List ℕ) → length value ≡ pcr_length → index < pcr_count → s.count < last_count → extend_flaw s index value ≡ None
extend_passes s index value a b c = λ i. first (cond-true _ None (Some Size) (eq-eqb _ _ a) i) (first (cond-true _ None (Some Value) (lt-ltb _ _ b) i) (cond-true _ None (Some Memory) (lt-ltb _ _ c) i))

-- a table stays one in which every Name comes once
pub put_once : (v : Values) (e : Entry) (flaw : Option Code) → distinct bytes_eq (settled flaw (put_under bytes_eq (held v) e.name.bytes (value_bytes e.value)) (held v)) ≡ true
put_once v e None = distinct_put bytes_eq bytes_eq-Decides (held v) e.name.bytes (value_bytes e.value) v.once
put_once v e (Some c) = v.once

-- the table's Names are those under which values are held
pub holding : (v : Values) (s : Snapshot) → s.stored ≡ value_under bytes_eq (held v) → Holding s (length (held v))
holding v s e = record {
  names = keys (held v);
  counted = length-map (held v) (λ x. x.0);
  once = keys_once bytes_eq bytes_eq-Decides (held v) [] v.once;
  exactly = λ name. subst (λ f. Decides (is_some (f name)) (ContainsAt (keys (held v)) name)) (sym e) (held_keys bytes_eq bytes_eq-Decides (held v) name);
}

-- the state with another table of values
abbrev pub with_held : Snapshot → List (List ℕ × List ℕ) → Snapshot
with_held s es = record { pcrs = s.pcrs; count = s.count; stored = value_under bytes_eq es; time = s.time; locality = s.locality; presence = s.presence }

put_held : (s : Snapshot) (es : List (List ℕ × List ℕ)) (name value : List ℕ) → with_held s (put_under bytes_eq es name value) ≡ with_value (with_held s es) name value
put_held s es name value = λ i. record { pcrs = s.pcrs; count = s.count; stored = λ other. value_put bytes_eq bytes_eq-Decides es name value other i; time = s.time; locality = s.locality; presence = s.presence }

pub put_settled : (s : Snapshot) (es : List (List ℕ × List ℕ)) (name value : List ℕ) (flaw : Option Code) → with_held s (settled flaw (put_under bytes_eq es name value) es) ≡ settled flaw (with_value (with_held s es) name value) (with_held s es)
put_settled s es name value None = put_held s es name value
put_settled s es name value (Some c) = refl

-- a Name and a value of their lengths are refused only for want of room
pub lengths_pass : (s : Snapshot) (es : List (List ℕ × List ℕ)) (name value : List ℕ) → length name ≡ name_length → length value ≤ value_limit → put_flaw (with_held s es) (length es) name value ≡ full_flaw bytes_eq value_count es name
lengths_pass s es name value a b = ap (λ f. first f (full_flaw bytes_eq value_count es name)) (cond-true _ None (Some Size) (and_from _ _ (eq-eqb _ _ a) (le-leb _ _ b)))

lengths_refused : (s : Snapshot) (n : ℕ) (name value : List ℕ) → (eqb (length name) name_length && leb (length value) value_limit) ≡ false → put_flaw s n name value ≡ Some Size
lengths_refused s n name value f = ap (λ b. first (cond b None (Some Size)) (unless (is_some (s.stored name) || ltb n value_count) Memory)) f

pub name_refused : (s : Snapshot) (n : ℕ) (name value : List ℕ) → (length name ≡ name_length → ⊥) → put_flaw s n name value ≡ Some Size
name_refused s n name value a = lengths_refused s n name value (and_left _ _ (ne_eqb _ _ a))

pub value_refused : (s : Snapshot) (n : ℕ) (name value : List ℕ) → value_limit < length value → put_flaw s n name value ≡ Some Size
value_refused s n name value a = lengths_refused s n name value (and_right _ _ (lt-leb _ _ a))

-- what the answer of a check tells of its flaw
pub passed : {A : Type 0} (flaw : Option Code) (x a : A) → Ok x ≡ refused_with flaw a → (flaw ≡ None) × (x ≡ a)
passed None x a e = (refl, cc)
passed (Some d) x a e = absurd (let z : ◌≡◌ {A = ℕ} 0 1 = cc in omega arith)

pub refused : {A : Type 0} (flaw : Option Code) (code : Code) (a : A) → Err code ≡ refused_with flaw a → flaw ≡ Some code
refused None code a e = absurd (let z : ◌≡◌ {A = ℕ} 0 1 = cc in omega arith)
refused (Some d) code a e = cc
