-- What a call that puts text onto a page leaves.
use Rattle.std.specs.Prelude.{ℕ, ◌≡◌, ◌+◌, ◌≤◌, List}
use Rattle.base.specs.Inner.Put.{PutWithin, last_place}
use Rattle.text.specs.declared.Page.{Page}

-- so many bytes may be put
abbrev pub HasRoom : ℕ → Page → Type 0
HasRoom most p = p.place + most ≤ last_place

-- the text of at most so many bytes is put at the page's place, and the page still has its buffer
pub record Adds (most : ℕ) (text : List ℕ) (before after : Page) : Type 0 where
  pub put : PutWithin most before.bytes.now before.place text after.bytes.now after.place
  pub same_buffer : after.bytes.ghost_name ≡ before.bytes.ghost_name

-- some text of at most so many bytes is put, and the page still has its buffer
pub record AddsAtMost (most : ℕ) (before after : Page) : Type 0 where
  pub short : after.place ≤ before.place + most
  pub same_buffer : after.bytes.ghost_name ≡ before.bytes.ghost_name
