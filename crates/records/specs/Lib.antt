-- The kind of a record, the room that it needs, and what is known of a job that was read, in the definition's words.
pub mod Reading
