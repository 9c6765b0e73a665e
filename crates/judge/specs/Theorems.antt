pub mod SpanFirst
