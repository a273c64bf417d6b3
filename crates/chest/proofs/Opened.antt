-- What a book's checks say of an opening.
use Rattle.std.proofs.Common.{◌≡◌, ℕ, Bool, not, ◌&&◌, ◌||◌, ◌==◌, Some, None, Ok, Err, Option, Result, length, nat_le, refl, sym, ap, ◌∙◌, arith}
use Rattle.std.specs.Str.{bytes_eq}
use Rattle.interfaces.specs.declared.code.Code.{Code}
use Rattle.interfaces.specs.declared.code.Code.TheVariants.{AuthFail, Pp, Size, PolicyFail, PolicyCc, PcrChanged, Locality, Lockout}
use Rattle.interfaces.specs.Checks.{first, fitting, refused_with, unless}
use Rattle.interfaces.specs.Hashing.{Hashing}
use Rattle.interfaces.specs.States.{Snapshot}
use Rattle.session.specs.Books.{Book, Shelf, book_at}
use Rattle.session.specs.Openings.{Request, allows_locality, book_answer, book_flaw, opening, same_password, tries_left, unseal}
use Rattle.session.specs.Steps.{Progress, same_record}

-- one flaw answers alike, whatever there would be to give
passed_with : {A B : Type 0} (f : Option Code) (a : A) (b : B) → Ok a ≡ refused_with f a → Ok b ≡ refused_with f b
passed_with None a b e = refl
passed_with (Some c) a b e = absurd (let z : ◌≡◌ {A = ℕ} 0 1 = cc in omega arith)

failed_with : {A B : Type 0} (f : Option Code) (a : A) (b : B) (c : Code) → Err c ≡ refused_with f a → Err c ≡ refused_with f b
failed_with None a b c e = absurd (let z : ◌≡◌ {A = ℕ} 0 1 = cc in omega arith)
failed_with (Some d) a b c e = cc

given_by : {A : Type 0} (f : Option Code) (a b : A) → Ok a ≡ refused_with f b → (f ≡ None) × (a ≡ b)
given_by None a b e = (refl, cc)
given_by (Some c) a b e = absurd (let z : ◌≡◌ {A = ℕ} 0 1 = cc in omega arith)

later_none : (f g : Option Code) → first f g ≡ None → g ≡ None
later_none None g e = e
later_none (Some c) g e = absurd (let z : ◌≡◌ {A = ℕ} 0 1 = cc in omega arith)

-- the last of a book's checks has passed, which is that of the content's length
last_none : (t1 t2 t3 t4 t5 t6 t7 t8 : Bool) → first (unless t1 PcrChanged) (first (unless t2 PolicyFail) (first (unless t3 PolicyCc) (first (unless t4 Locality) (first (unless t5 Pp) (first (unless t6 Lockout) (first (unless t7 AuthFail) (unless t8 Size))))))) ≡ None → unless t8 Size ≡ None
last_none t1 t2 t3 t4 t5 t6 t7 t8 e =
    later_none (unless t7 AuthFail) _ (later_none (unless t6 Lockout) _ (later_none (unless t5 Pp) _ (later_none (unless t4 Locality) _ (later_none (unless t3 PolicyCc) _ (later_none (unless t2 PolicyFail) _ (later_none (unless t1 PcrChanged) _ e))))))

module _ (h : Hashing) (s : Snapshot) (shelf : Shelf) (p : Progress) (q : Request) (b : Book) where
  pub judged_open : Some b ≡ book_at shelf q.place → ◌≡◌ {A = Result (Unit {0}) Code} (Ok tt) (refused_with (book_flaw h s shelf p q b) tt) → Ok b ≡ opening h s shelf p q
  judged_open there e = passed_with {A = Unit {0}} (book_flaw h s shelf p q b) tt b e ∙ ap (book_answer h s shelf p q) there

  pub judged_shut : (c : Code) → Some b ≡ book_at shelf q.place → ◌≡◌ {A = Result (Unit {0}) Code} (Err c) (refused_with (book_flaw h s shelf p q b) tt) → Err c ≡ opening h s shelf p q
  judged_shut c there e = failed_with {A = Unit {0}} (book_flaw h s shelf p q b) tt b c e ∙ ap (book_answer h s shelf p q) there

  -- the content of an opened book fits
  pub opened_fits : Ok b ≡ opening h s shelf p q → fitting b.content q.room ≡ Ok b.content
  opened_fits = go (book_at shelf q.place)
    where
      go : (o : Option Book) → Ok b ≡ book_answer h s shelf p q o → fitting b.content q.room ≡ Ok b.content
      go None e = absurd (let z : ◌≡◌ {A = ℕ} 0 1 = cc in omega arith)
      go (Some d) e =
          let flawless = given_by (book_flaw h s shelf p q d) b d e in
          let last = last_none (same_record p.count s.count) (d.identifier == h.identifier && bytes_eq d.digest p.digest) (same_record p.command unseal) (allows_locality p.localities s.locality) (not p.presence || s.presence) (not p.password || tries_left shelf) (not p.password || same_password q.given d.password) (nat_le (length d.content) q.room) flawless.0 in
          ap (λ x. fitting x.content q.room) flawless.1 ∙ ap (λ f. refused_with f d.content) last ∙ ap (λ x. Ok x.content) (sym flawless.1)
