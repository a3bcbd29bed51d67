-- What a function does, or wrote, by another name for the same answer or the same bytes. Assumes nothing.
use Prim.Native.Nat.{ℕ}
use mathlib.Core.Path.{◌≡◌, subst}
use mathlib.Core.List.{List}
use Rattle.writing.specs.AnswerSheet.{Wrote}
use Rattle.payments.specs.declared.paying.Answered.{Answered}
use Rattle.payments.specs.Payments.{Answer, Does}

pub does_as : {a b : Answer} {r : Answered} {gives old new : List ℕ} {room : ℕ} → a ≡ b → Does a r gives old new room → Does b r gives old new room
does_as {r = r} {gives = gives} {old = old} {new = new} {room = room} e d = subst (λ a. Does a r gives old new room) e d

pub wrote_as : {xs ys old new : List ℕ} {r : ℕ} → xs ≡ ys → Wrote xs old new r → Wrote ys old new r
wrote_as {old = old} {new = new} {r = r} e w = subst (λ t. Wrote t old new r) e w
